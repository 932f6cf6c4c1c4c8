use Rattle.std.proofs.Common.{ℕ, ◌≤◌, Some}
use Rattle.sota_units.specs.Limits.{BUDGET_LIMIT}
use Rattle.sota_network.specs.Network.{Net, IsNet}
use Rattle.sota_network.specs.Laws.{ListLaws}
use Rattle.sota_kept.specs.Ticks.{END_LIMIT}
use Rattle.sota_kept.specs.States.{prepared_state}
use Rattle.sota_bounds.proofs.Missing.{RegionLaws, prepared-fresh, missing-cells}
use Rattle.sota_bounds.proofs.Missing.{prepared-begun, missing-none}
use Rattle.sota_bounds.proofs.laws.asks_miss.Goals as goal

pub returns : goal.returns
returns c =
    let lists : ListLaws = c.lists_by_number.ensures in
    let laws : (net : Net) (origin dest last : ℕ) → IsNet net → last ≤ BUDGET_LIMIT
    → RegionLaws net origin dest last = λ net origin dest last valid short. record {
      short = short;
      inside = λ i. c.regions_have_least_times.ensures.counted net origin dest last i valid;
      pairs = λ i to from has onward came.
          c.region_by_least_times.ensures.pairs net origin dest last i (Some to) (Some from) valid
          has.elsewhere onward came;
      needs = λ i to from has onward came.
          c.region_by_least_times.ensures.needs net origin dest last i (Some to) (Some from) valid
          has.elsewhere onward came;
      times = λ i to onward.
          c.least_ticks.ensures.time net dest END_LIMIT dest i (Some to) valid onward;
    } in
    record {
      front = λ net origin dest last i state at node.
          (prepared-fresh lists net origin dest last state at i node).front;
      base = λ net origin dest last i state at node.
          (prepared-fresh lists net origin dest last state at i node).base;
      cells = λ net origin dest last state valid short at.
          missing-cells lists net origin dest last (laws net origin dest last valid short) state at;
      nothing = λ net origin dest last state valid short small.
          missing-none lists net origin dest last (laws net origin dest last valid short) small
          (prepared_state net origin dest last state)
          (prepared-begun lists net origin dest last (laws net origin dest last valid short) small
          state);
    }
