-- The rows of what was planned for an ask are those of its bracket, and make a table.
use Rattle.std.proofs.Common.{ℕ, ◌≡◌, ◌≢◌, ◌+◌, ◌-◌, ◌<◌, ◌≤◌, List, map, length, get_or, Option, Some, None, refl, sym, ◌∙◌, ap, arith, subst}
use Rattle.std.specs.List.{All, range_with_len}
use Rattle.std.proofs.lemmas.Option.{get_or_from_slice_get, slice_get_within}
use Rattle.std.proofs.lemmas.List.FromFn.{length-map-range_with_len, get_or-map-range_with_len}
use Rattle.sota_units.specs.Limits.{BUDGET_LIMIT}
use Rattle.sota_network.specs.Network.{Net, IsNode}
use Rattle.sota_network.specs.Walks.{IsLeast, IsLeastTime, empty}
use Rattle.sota_network.specs.Region.{pairs_at, pairs_between, HasLeastTimes}
use Rattle.sota_kept.specs.Ticks.{END_LIMIT, least_to, up_to}
use Rattle.sota_bounds.specs.Search.{time_at}
use Rattle.sota_bounds.specs.Cells.{listed_need, pairs_by_need}
use Rattle.sota_bounds.specs.declared.ask.AskRegion.{AskRegion}
use Rattle.sota_tables.specs.Views.{TablesView}
use Rattle.sota_polfile.specs.Entry.{IsBracketEntry}
use Rattle.sota_polfile.specs.Table.{IsHead}
use Rattle.sota_polfile.specs.Bracket.{IsPart, IsBracket, part_head}
use Rattle.sota_polfile.specs.declared.bracket_entry.BracketEntry.{BracketEntry}
use Rattle.sota_polfile.specs.declared.bracket_row.BracketRow.{BracketRow}
use Rattle.sota_check.specs.Planned.{ask_head}
use Rattle.sota_check.specs.PlannedBracket.{grid_bracket}
use Rattle.sota_session.specs.Rows.{bracket_in, bracket_row_in}
use Rattle.sota_session.specs.Brackets.{bracket_row, plan_bracket}
use Rattle.sota_session.specs.declared.ask.Ask.{Ask}
use Rattle.sota_session.proofs.Planned.{IsPlannedFor, region-is, need-within, mapped-same}

-- how many budgets are left from a least time on
left-over : (needed : ℕ) (time : Option ℕ) → needed ≤ END_LIMIT → needed - up_to END_LIMIT time ≡ pairs_by_need time needed
left-over needed None within = omega (arith, within)
left-over needed (Some to) within = omega (arith, within)

-- the laws of least times, and of the pairs of an ask, whose budget is not too great
pub record HasTimes (net : Net) (ask : Ask) : Type 0 where
  pub short : ask.budget ≤ BUDGET_LIMIT
  pub times : (i : ℕ) (time : Option ℕ) → IsLeastTime net ask.dest i ask.dest time → least_to net ask.dest i ≡ up_to END_LIMIT time
  pub most : (i : ℕ) → least_to net ask.dest i ≤ END_LIMIT
  pub counted : (i : ℕ) → 1 ≤ pairs_at net ask.origin ask.dest ask.budget i → HasLeastTimes net ask.origin ask.dest ask.budget i
  pub pairs : (i : ℕ) (to from : Option ℕ) → i ≢ ask.dest → IsLeastTime net ask.dest i ask.dest to → IsLeastTime net ask.dest ask.origin i from
      → pairs_at net ask.origin ask.dest ask.budget i ≡ pairs_between ask.budget to from
  pub dest_pairs : pairs_at net ask.origin ask.dest ask.budget ask.dest ≡ 0

module _ (net : Net) (ask : Ask) (laws : HasTimes net ask) where
  abbrev pub count : ℕ → ℕ
  count i = pairs_at net ask.origin ask.dest ask.budget i

  abbrev pub first : ℕ → ℕ
  first i = least_to net ask.dest i

  pub first-is : (i : ℕ) (times : HasLeastTimes net ask.origin ask.dest ask.budget i) → first i ≡ times.to
  first-is i times =
      let is : first i ≡ up_to END_LIMIT (Some times.to) = laws.times i (Some times.to) times.onward in
      omega (arith, is, times.within, laws.short)

  pub count-is : (i : ℕ) (times : HasLeastTimes net ask.origin ask.dest ask.budget i) → count i ≡ ask.budget + 1 - (times.to + times.from)
  count-is i times = laws.pairs i (Some times.to) (Some times.from) times.elsewhere times.onward times.came

  first-there : first ask.dest ≡ 0
  first-there =
      let none : IsLeast net ask.dest ask.dest ask.dest 0 = record { walk = empty; least = λ m walk. omega arith } in
      let is : first ask.dest ≡ up_to END_LIMIT (Some 0) = laws.times ask.dest (Some 0) none in
      omega (arith, is)

  length-is : (i : ℕ) → length (bracket_row net ask i).entries ≡ count i
  length-is i = length-map-range_with_len (grid_bracket net ask.dest i) (first i) (count i)

  part-is : (i : ℕ) → IsPart (ask_head net ask.origin ask.dest ask.budget) (part_head i (bracket_row net ask i))
  part-is i = record {
    dest = λ at. (ap first at ∙ first-there, length-is i ∙ ap count at ∙ laws.dest_pairs);
    first = (let most : first i ≤ BUDGET_LIMIT + 1 = omega (arith, laws.most i) in most);
    last = λ some.
        let many : 1 ≤ count i = omega (arith, some, length-is i) in
        let times = laws.counted i many in
        omega (arith, length-is i, first-is i times, count-is i times, times.within);
  }

  pub bracket-table : (rows : List BracketRow) → rows ≡ map (bracket_row net ask) (range_with_len 1 net.nodes) → All (λ row. All IsBracketEntry row.entries) rows → IsHead (ask_head net ask.origin ask.dest ask.budget)
      → IsBracket (record { head = ask_head net ask.origin ask.dest ask.budget; rows = rows })
  bracket-table rows are entries head =
      let size : length rows ≡ net.nodes = ap length are ∙ length-map-range_with_len (bracket_row net ask) 1 net.nodes in
      record {
        head = head;
        size = size;
        rows = λ k row at.
            let inside : k < length rows = slice_get_within rows k row at in
            let here : get_or rows k row ≡ row = get_or_from_slice_get rows k row row at in
            let is : row ≡ bracket_row net ask (k + 1) =
            sym here ∙ ap (λ (xs : List BracketRow). get_or xs k row) are
            ∙ get_or-map-range_with_len (bracket_row net ask) 1 net.nodes k (k + 1) row (omega (arith, inside, size)) (omega arith) in
            record {
              numbers = subst (λ (r : BracketRow). IsPart (ask_head net ask.origin ask.dest ask.budget) (part_head (k + 1) r)) (sym is) (part-is (k + 1));
              entries = subst (λ (r : BracketRow). All IsBracketEntry r.entries) here (entries k row inside);
            };
      }

module _ (net : Net) (ask : Ask) (region : AskRegion) (tables : TablesView) (laws : HasTimes net ask) (is : IsPlannedFor net ask region tables) where
  time-is : (i : ℕ) → IsNode net i → up_to END_LIMIT (time_at region.least i) ≡ least_to net ask.dest i
  time-is i node = sym (laws.times i (time_at region.least i) ((region-is net ask region tables is).least i node))

  entry-same : (i t : ℕ) → IsNode net i → t < listed_need region.need i → bracket_in tables i t ≡ grid_bracket net ask.dest i t
  entry-same i t node less =
      let known = is.made.agrees.known i t (node.0, (let high : i ≤ length tables.fronts = omega (arith, node.1, is.made.nodes) in high)) less in
      rw (is.made.choice_is i t known, is.made.lower i t known, is.made.upper i t known, is.asked.1) refl

  row-same : (i : ℕ) → IsNode net i → bracket_row_in region tables i ≡ bracket_row net ask i
  row-same i node =
      let needed : ℕ = listed_need region.need i in
      let start : ℕ = up_to END_LIMIT (time_at region.least i) in
      let within : needed ≤ END_LIMIT = omega (arith, need-within net ask region tables is i node, laws.short) in
      let count : needed - start ≡ pairs_at net ask.origin ask.dest ask.budget i =
      left-over needed (time_at region.least i) within ∙ sym ((region-is net ask region tables is).pairs i node) in
      let entries : map (bracket_in tables i) (range_with_len start (needed - start)) ≡ map (grid_bracket net ask.dest i) (range_with_len start (needed - start)) =
      mapped-same (bracket_in tables i) (grid_bracket net ask.dest i) start (needed - start) (λ t low high. entry-same i t node (let less : t < needed = omega (arith, low, high) in less)) in
      ap (λ (es : List BracketEntry). (let row : BracketRow = record { first = start; entries = es } in row)) entries
      ∙ ap (λ (n : ℕ). (let row : BracketRow = record { first = start; entries = map (grid_bracket net ask.dest i) (range_with_len start n) } in row)) count
      ∙ ap (λ (a : ℕ). (let row : BracketRow = record { first = a; entries = map (grid_bracket net ask.dest i) (range_with_len a (pairs_at net ask.origin ask.dest ask.budget i)) } in row)) (time-is i node)

  pub rows-same : map (bracket_row_in region tables) (range_with_len 1 net.nodes) ≡ map (bracket_row net ask) (range_with_len 1 net.nodes)
  rows-same = mapped-same (bracket_row_in region tables) (bracket_row net ask) 1 net.nodes (λ i low high. row-same i (low, (let z : i ≤ net.nodes = omega (arith, high) in z)))

pub bracket-planned : (net : Net) (ask : Ask) (rows : List BracketRow) → rows ≡ map (bracket_row net ask) (range_with_len 1 net.nodes) → record { head = ask_head net ask.origin ask.dest ask.budget; rows = rows } ≡ plan_bracket net ask
unfolding plan_bracket
bracket-planned net ask rows are = rw are refl
