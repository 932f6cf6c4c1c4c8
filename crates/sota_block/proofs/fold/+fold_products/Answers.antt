use Rattle.std.proofs.Common.{◌≡◌, ℕ, ◌+◌, ◌*◌, ◌/◌, ap, ◌∙◌, arith}
use Rattle.sota_block.proofs.Folding.{half_is_block, count_plain, count_folded}
use Rattle.sota_block.proofs.fold.+fold_products.Goals as goal

pub fold_products-requires : goal.fold_products-requires
fold_products-requires t c =
    let halves = half_is_block c.args.len c.requires c.if-len-le-PLAIN_LENGTH.false in
    let e = c.decreases in
    (omega arith, halves.0)

pub returns-then-len-le-PLAIN_LENGTH-clause-count : goal.returns-then-len-le-PLAIN_LENGTH-clause-count
returns-then-len-le-PLAIN_LENGTH-clause-count t c = λ r power. count_plain c.args.len r power c.if-len-le-PLAIN_LENGTH.true

pub returns-else-len-le-PLAIN_LENGTH-clause-count : goal.returns-else-len-le-PLAIN_LENGTH-clause-count
returns-else-len-le-PLAIN_LENGTH-clause-count t c = λ r power.
    let count = count_folded c.args.len r power c.if-len-le-PLAIN_LENGTH.false in
    let half = c.fold_products.ensures.count count.0 count.1 in
    omega (arith, half, count.2)

pub returns-else-len-le-PLAIN_LENGTH-clause-within : goal.returns-else-len-le-PLAIN_LENGTH-clause-within
returns-else-len-le-PLAIN_LENGTH-clause-within t c =
    let halves = half_is_block c.args.len c.requires c.if-len-le-PLAIN_LENGTH.false in
    let h : ℕ = c.args.len / 2 in
    let e : c.args.len ≡ h + h = halves.1 in
    let whole : c.args.len * c.args.len ≡ (h + h) * (h + h) = ap (λ (x : ℕ). x * c.args.len) e ∙ ap (λ (x : ℕ). (h + h) * x) e in
    let parts : (h + h) * (h + h) ≡ 4 * (h * h) = omega arith in
    omega (arith, whole, parts, c.fold_products.ensures.within)
