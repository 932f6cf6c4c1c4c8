use Rattle.std.proofs.Common.{◌≡◌, ℕ, ◌-◌, take, drop, arith, ◌∙◌, ap, refl}
use Rattle.sota_online.proofs.Parts.{plain_is}
use Rattle.sota_online.proofs.sums.plain_sum.Goals as goal

pub returns-clause-value : goal.returns-clause-value
returns-clause-value c =
    let values = c.args.values.now in
    let place = c.args.position in
    let few = c.min-few.result in
    let width : place - (place - few) ≡ few = omega arith in
    c.crossed.ensures.value ∙ plain_is c.args.masses.now values _ _ place few (omega arith) c.requires.known refl (ap (λ (k : ℕ). take k (drop (place - few) values)) width)
