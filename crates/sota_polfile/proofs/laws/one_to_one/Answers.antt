use Rattle.sota_polfile.proofs.Files.{read_again, read_spelled, IsBytes-from_all}
use Rattle.sota_polfile.proofs.laws.one_to_one.Goals as goal

pub returns-clause-again : goal.returns-clause-again
returns-clause-again c = λ table is. read_again table is

pub returns-clause-whole : goal.returns-clause-whole
returns-clause-whole c = λ bytes table fits e. read_spelled bytes table (IsBytes-from_all bytes fits) e
