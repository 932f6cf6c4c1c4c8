use Rattle.std.proofs.Common.{ℕ, ◌*◌, refl, ap}
use Rattle.sota_kept.specs.States.{first_state}
use Rattle.sota_session.proofs.Accepted.{within-budget, few-cells}
use Rattle.sota_session.proofs.laws.asks_push_their_cells.Goals as goal

pub returns : goal.returns
returns c = record {
  first = λ net ask valid accepted. ap (λ (n : ℕ). 3 * n)
      (c.asks_miss.ensures.cells net ask.origin ask.dest ask.budget (first_state net.nodes) valid
      (within-budget net ask accepted) refl);
  again = λ net ask state valid accepted. ap (λ (n : ℕ). 3 * n)
      (c.asks_miss.ensures.nothing net ask.origin ask.dest ask.budget state valid
      (within-budget net ask accepted) (few-cells net ask accepted));
}
