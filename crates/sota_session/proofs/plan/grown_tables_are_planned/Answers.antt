use Rattle.sota_session.proofs.Growing.{planned}
use Rattle.sota_session.proofs.plan.grown_tables_are_planned.Goals as goal

pub returns : goal.returns
returns c = λ net region mid new valid is budget origin to based state settled.
    planned net region mid new (record {
      lists = c.lists_by_number.ensures;
      is = is;
      origin = origin;
      to = to;
      based = based;
      state = state;
      settled = settled;
      table = c.views_are_lists.ensures.table;
      known = λ s off at_origin met. c.needs_are_met.ensures.asked net region.origin region.dest region.budget s valid budget off at_origin met;
      lower = λ i t s. c.settled_entries.ensures.lower net region.dest i t s;
      upper = λ i t s. c.settled_entries.ensures.upper net region.dest i t s;
      choice_is = λ i t s off. c.settled_entries.ensures.choice net region.dest i t s valid off;
      lower_recurs = λ i t. c.grid_recurs.ensures.lower net region.dest i t valid;
      upper_recurs = λ i t. c.grid_recurs.ensures.upper net region.dest i t valid;
    })
