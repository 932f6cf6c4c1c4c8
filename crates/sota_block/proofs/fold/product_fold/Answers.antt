use Rattle.std.proofs.Common.{arith}
use Rattle.sota_units.specs.Rounding.{ONE}
use Rattle.sota_block.proofs.Folding.{at_most, All-scaled}
use Rattle.sota_block.proofs.Limits.{last_is_zero, within_limit}
use Rattle.sota_block.proofs.fold.product_fold.Goals as goal

pub fold-requires-clause-values : goal.fold-requires-clause-values
fold-requires-clause-values g c = All-scaled ONE _ 65536 c.args.values.now (at_most _ c.requires.block) c.requires.values

pub returns-clause-last : goal.returns-clause-last
returns-clause-last g c =
    last_is_zero c.args.kernel.now c.args.values.now c.fold.new.into c.requires.same_length (omega arith) c.fold.ensures.coefficients

pub returns-clause-within : goal.returns-clause-within
returns-clause-within g c =
    within_limit c.args.kernel.now c.args.values.now c.fold.new.into c.requires.same_length (omega arith) c.fold.ensures.coefficients ONE (omega arith) c.requires.masses c.requires.values
