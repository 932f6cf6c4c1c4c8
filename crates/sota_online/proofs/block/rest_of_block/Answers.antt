use Rattle.std.proofs.Common.{arith}
use Rattle.std.proofs.lemmas.Nat.{pow_pos}
use Rattle.std.proofs.Math.Nat.{mod-lt}
use Rattle.sota_online.proofs.Blocks.{masked}
use Rattle.sota_online.proofs.block.rest_of_block.Goals as goal

pub returns-clause-whole : goal.returns-clause-whole
returns-clause-whole c = λ long. omega (arith, masked c.args.first c.args.smallest c.args.fed c.requires, mod-lt c.args.fed (pow_pos c.args.first), c.requires)
