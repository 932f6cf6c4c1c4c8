use Rattle.sota_network.proofs.Cells.{inside-is, pairs-is, need-is, pairs-dest, need-dest}
use Rattle.sota_network.proofs.laws.region_by_least_times.Goals as goal

pub returns : goal.returns
returns c = record {
  inside = λ net origin dest last i t to from valid off onward back. inside-is net valid origin dest last i to from off onward back t;
  pairs = λ net origin dest last i to from valid off onward back. pairs-is net valid origin dest last i to from off onward back;
  needs = λ net origin dest last i to from valid off onward back. need-is net valid origin dest last i to from off onward back;
  dest_pairs = λ net origin dest last. pairs-dest net origin dest last;
  dest_need = λ net origin dest last. need-dest net origin dest last;
}
