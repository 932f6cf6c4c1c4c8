use Rattle.std.proofs.Common.{ℕ, ◌≡◌, ◌+◌, ◌≤◌, length, ◌∙◌, ap, List, Some, refl, sym, subst}
use Rattle.std.specs.List.{All}
use Rattle.sota_network.specs.Network.{IsNode}
use Rattle.sota_network.specs.Numbers.{listed}
use Rattle.sota_bounds.specs.Search.{time_at, IsFoundBetween}
use Rattle.sota_bounds.specs.declared.search.Direction.TheVariants.{Along}
use Rattle.sota_bounds.specs.Cells.{need_by_times, pairs_by_lists, table_cells_by_lists, broad_cells_by_lists}
use Rattle.sota_bounds.proofs.Counted.{IsAsked, need-within, needs-are, pairs-is, table-is, broad-is}
use Rattle.sota_bounds.proofs.ask.all_needs.Goals as goal

-- the least times, and the law of the region at them
asked : (c : goal.After-drop-from-2) → IsAsked c.args.network.now c.args.origin c.args.dest c.args.budget c.args.least.now c.in_ok-from.from.items
asked c = record {
  valid = c.nodes.ensures.valid;
  nodes = c.requires.least.nodes;
  onward = c.requires.least.least;
  back = subst (λ (last : ℕ). (i : ℕ) → IsNode c.args.network.now i → IsFoundBetween (Some last) c.args.network.now c.args.dest Along c.args.origin i (time_at c.in_ok-from.from.items i))
      c.from.ensures c.in_ok-from.ensures.found;
  pairs = λ i to since apart onward back. c.region_by_least_times.ensures.pairs c.args.network.now c.args.origin c.args.dest c.args.budget i to since c.nodes.ensures.valid apart onward back;
  needs = λ i to since apart onward back. c.region_by_least_times.ensures.needs c.args.network.now c.args.origin c.args.dest c.args.budget i to since c.nodes.ensures.valid apart onward back;
  counted = λ i some. c.regions_have_least_times.ensures.counted c.args.network.now c.args.origin c.args.dest c.args.budget i c.nodes.ensures.valid some;
  entry = c.lists_by_number.ensures.entry;
  agree = c.lists_by_number.ensures.agree;
  dest_pairs = c.region_by_least_times.ensures.dest_pairs c.args.network.now c.args.origin c.args.dest c.args.budget;
  dest_need = c.region_by_least_times.ensures.dest_need c.args.network.now c.args.origin c.args.dest c.args.budget;
}

-- the needs that are kept
kept : (c : goal.After-drop-from-2) → c.in_ok-need.need.items ≡ listed (need_by_times c.args.dest c.args.budget c.args.least.now c.in_ok-from.from.items) (length c.args.least.now)
kept c = rw (c.deref.ensures.value) at c.in_ok-need.ensures.value

pub returns : goal.returns
returns c = record {
  asked = (refl, refl, refl);
  need = c.new.ensures ∙ kept c ∙ needs-are c.args.network.now c.args.origin c.args.dest c.args.budget c.args.least.now c.in_ok-from.from.items (asked c);
  within =
      subst (λ (needs : List ℕ). All (λ (need : ℕ). need ≤ c.args.budget + 1) needs) (sym (c.new.ensures ∙ kept c))
      (c.lists_by_number.ensures.within (need_by_times c.args.dest c.args.budget c.args.least.now c.in_ok-from.from.items) (length c.args.least.now) (c.args.budget + 1)
      (need-within c.args.dest c.args.budget c.args.least.now c.in_ok-from.from.items));
  pairs = λ i node.
      sym (ap (λ (needs : List ℕ). pairs_by_lists c.args.least.now needs i) c.new.ensures ∙ pairs-is c.args.network.now c.args.origin c.args.dest c.args.budget c.args.least.now c.in_ok-from.from.items (asked c) c.in_ok-need.need.items (kept c) i node);
  table_cells = c.table_cells_of-table_cells.ensures
      ∙ ap (λ (needs : List ℕ). table_cells_by_lists c.args.least.now needs (length c.args.least.now)) c.deref-2.ensures.value
      ∙ table-is c.args.network.now c.args.origin c.args.dest c.args.budget c.args.least.now c.in_ok-from.from.items (asked c) c.in_ok-need.need.items (kept c);
  broad_cells = c.broad_cells_of-broad_cells.ensures
      ∙ ap (λ (needs : List ℕ). broad_cells_by_lists c.args.budget c.args.least.now needs c.args.network.now.arcs) c.deref-3.ensures.value
      ∙ broad-is c.args.network.now c.args.origin c.args.dest c.args.budget c.args.least.now c.in_ok-from.from.items (asked c) c.in_ok-need.need.items (kept c);
}
