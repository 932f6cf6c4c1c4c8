use Rattle.sota_kept.proofs.Filling.{known-lower, known-upper}
use Rattle.sota_kept.proofs.Answering.{known-choice}
use Rattle.sota_kept.proofs.kept.settled_entries.Goals as goal

pub returns : goal.returns
returns c = record {
  lower = λ net dest i t s is early. known-lower net dest i s is t early;
  upper = λ net dest i t s is early. known-upper net dest i s is t early;
  choice = λ net dest i t s valid off is early. known-choice net (c.network_laws.ensures net valid) dest i s off is t early;
}
