use Rattle.std.proofs.Common.{refl, arith}
use Rattle.sota_block.proofs.tests.small.Goals as goal

pub returns : goal.returns
returns g c = omega (arith, c.product_plain.ensures.count 1 refl)
