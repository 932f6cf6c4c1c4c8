use Rattle.sota_polfile.proofs.Files.{IsBytes-from_all}
use Rattle.sota_polfile.proofs.BothVersions.{any_again, any_spelled}
use Rattle.sota_polfile.proofs.laws.any_one_to_one.Goals as goal

pub returns-clause-again : goal.returns-clause-again
returns-clause-again c = λ table is. any_again table is

pub returns-clause-whole : goal.returns-clause-whole
returns-clause-whole c = λ bytes table fits e. any_spelled bytes table (IsBytes-from_all bytes fits) e
