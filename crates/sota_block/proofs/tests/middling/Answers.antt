use Rattle.std.proofs.Common.{◌≤◌, refl, arith}
use Rattle.std.proofs.lemmas.List.Elements.{All-replicate}
use Rattle.sota_units.specs.Rounding.{ONE}
use Rattle.sota_block.proofs.tests.middling.Goals as goal

pub product_fold-requires-clause-block : goal.product_fold-requires-clause-block
product_fold-requires-clause-block g c = (6, omega arith, refl)

pub product_fold-requires-clause-values : goal.product_fold-requires-clause-values
product_fold-requires-clause-values g c = All-replicate (λ v. v ≤ ONE) 64 7 (omega arith)

pub returns : goal.returns
returns g c = omega (arith, c.product_fold.ensures.count 6 refl)
