use Rattle.std.proofs.Common.{ap, subst, ◌∙◌, arith}
use Rattle.sota_units.specs.Memory.{Answers}
use Rattle.sota_polfile.specs.Words.{is_shortage}
use Rattle.sota_polfile.specs.BracketFile.{any_of}
use Rattle.sota_polfile.proofs.BothVersions.{any_again, reads_spelled}
use Rattle.sota_polfile.proofs.any.read_any.Goals as goal

pub returns-clause-read : goal.returns-clause-read
returns-clause-read c = reads_spelled c.args.bytes.now c.any_of.result (λ i. omega (arith, c.type_inv.bytes i)) c.any_of.ensures

pub returns-clause-only : goal.returns-clause-only
returns-clause-only c = λ table is e. subst (λ answer. Answers is_shortage c.any_of.result answer) (ap any_of e ∙ any_again table is) c.any_of.ensures
