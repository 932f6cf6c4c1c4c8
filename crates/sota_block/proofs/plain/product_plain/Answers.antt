use Rattle.std.proofs.Common.{arith}
use Rattle.sota_units.specs.Rounding.{ONE}
use Rattle.sota_block.proofs.Limits.{last_is_zero, within_limit, square_is}
use Rattle.sota_block.proofs.plain.product_plain.Goals as goal

pub returns-clause-last : goal.returns-clause-last
returns-clause-last g c =
    last_is_zero c.args.kernel.now c.args.values.now c.multiply.new.into c.requires.same_length (omega arith) c.multiply.ensures.coefficients

pub returns-clause-within : goal.returns-clause-within
returns-clause-within g c =
    within_limit c.args.kernel.now c.args.values.now c.multiply.new.into c.requires.same_length (omega arith) c.multiply.ensures.coefficients ONE (omega arith) c.requires.masses c.requires.values

pub returns-clause-count : goal.returns-clause-count
returns-clause-count g c = λ r power. omega (arith, square_is _ r power)
