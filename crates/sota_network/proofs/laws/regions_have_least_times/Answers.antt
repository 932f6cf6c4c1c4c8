use Rattle.sota_network.proofs.Reached.{inside-times, counted-times}
use Rattle.sota_network.proofs.laws.regions_have_least_times.Goals as goal

pub returns : goal.returns
returns c = record {
  inside = λ net origin dest last i t valid is. inside-times net valid origin dest last i t is;
  counted = λ net origin dest last i valid many. counted-times net valid origin dest last i many;
}
