use Rattle.sota_script.proofs.Colons.{pair_read, pair_only}
use Rattle.sota_script.proofs.laws.pairs_are_parted_once.Goals as goal

pub returns-clause-read : goal.returns-clause-read
returns-clause-read c = pair_read

pub returns-clause-only : goal.returns-clause-only
returns-clause-only c = pair_only
