use Rattle.std.proofs.Common.{ap, subst, ◌∙◌, arith}
use Rattle.sota_units.specs.Memory.{Answers}
use Rattle.sota_polfile.specs.Words.{is_shortage}
use Rattle.sota_polfile.specs.Faults.{policy_of}
use Rattle.sota_polfile.proofs.Files.{read_again, reads_spelled}
use Rattle.sota_polfile.proofs.reading.read_policy.Goals as goal

pub returns-clause-read : goal.returns-clause-read
returns-clause-read c = reads_spelled c.args.bytes.now c.table_of.result (λ i. omega (arith, c.type_inv.bytes i)) c.table_of.ensures

pub returns-clause-only : goal.returns-clause-only
returns-clause-only c = λ table is e. subst (λ answer. Answers is_shortage c.table_of.result answer) (ap policy_of e ∙ read_again table is) c.table_of.ensures
