use Rattle.std.proofs.Common.{ℕ, sym, arith}
use Rattle.sota_bounds.specs.Search.{time_at}
use Rattle.sota_network.specs.Laws.{ListLaws}
use Rattle.sota_kept.specs.Ticks.{END_LIMIT}
use Rattle.sota_plan.proofs.Preparing.{needs-within, need-is, needs-all}
use Rattle.sota_plan.proofs.laws.region_laws.Goals as goal

pub returns : goal.returns
returns c = λ net region valid is within.
    let dest : ℕ = region.dest in
    let lists : ListLaws = c.lists_by_number.ensures in
    let most = needs-within net region.origin dest region.budget (λ i. c.needs_are_met.ensures.above net region.origin dest region.budget i valid within) in
    let needed = need-is lists net valid region is most in
    record {
      valid = valid;
      laws = record {
        arc = λ e arc at. c.arcs_by_number.ensures net e arc valid at;
        reach = λ i t less. c.least_ticks.ensures.reach net dest END_LIMIT dest i t valid less;
        most = λ i. c.least_ticks.ensures.most net dest END_LIMIT dest i valid;
        walk = λ i t there. c.reaches_by_walks.ensures.walk net dest i dest t valid there;
        onward = λ i t n way less. c.reaches_by_walks.ensures.reach net dest i dest t n valid way less;
        below = λ i t far. c.reaches_by_walks.ensures.below net dest i t valid far;
        order = λ i t. c.grid_encloses.ensures.order net dest i t valid;
      };
      lists = lists;
      is = is;
      times = λ i node. sym (c.least_ticks.ensures.time net dest END_LIMIT dest i (time_at region.least i) valid (is.least i node));
      need_is = needed;
      within = most;
      needs = λ i node. omega (arith, needed i node, most i);
      needs_all = needs-all lists net valid region is most c.lists_by_number.ensures.within;
      dest_need = c.region_by_least_times.ensures.dest_need net region.origin dest region.budget;
      heads = λ w tables to ready ends at. c.extents_of_tables.ensures.heads net region.origin dest region.budget w tables valid within to ready ends at;
      none = c.region_by_least_times.ensures.dest_pairs net region.origin dest region.budget;
      extent = λ w tables i to reach ends. c.extents_of_tables.ensures.extent net w tables i to valid reach ends;
    }
