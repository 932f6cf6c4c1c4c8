use Rattle.sota_network.proofs.Numbered.{numbers-only, numbers-every, numbers-few}
use Rattle.sota_network.proofs.laws.numbers_of_arcs.Goals as goal

pub returns : goal.returns
returns c = record {
  only = λ net test. numbers-only net test;
  all = λ net test e arc is pass. numbers-every net test e arc is pass;
  few = λ net test. numbers-few net test;
}
