use Rattle.std.proofs.Common.{ℕ, ◌≡◌, ◌+◌, ◌*◌, ◌/◌, ◌%◌, ◌≤◌, ◌∙◌, ap, arith, rules}
use Rattle.sota_units.proofs.Quotients.{digits}
use Rattle.sota_units.proofs.scale.Scale.divide.Goals as goal

pub returns : goal.returns
returns c =
    let q = c.from-q.result in
    let sum = c.args.sum in
    let some : 1 ≤ q = search rules in
    let whole : sum % 4294967296 + 4294967296 * (sum / 4294967296) ≡ sum = omega arith in
    let same : q ≡ c.args.self = search rules in
    rw (c.quotient-lower.ensures.quotient, c.quotient-upper.ensures.quotient, c.quotient-upper.ensures.remainder)
    (digits q 4294967296 (sum / 4294967296) (sum % 4294967296) some ∙ ap (λ (x : ℕ). x / q) whole ∙ ap (λ (x : ℕ). sum / x) same)
