-- The planner's own bracket holds.
use Rattle.std.proofs.Common.{ℕ, ◌≡◌, ◌≢◌, ◌+◌, ◌-◌, ◌*◌, ◌<◌, ◌≤◌, ◌⊎◌, inl, inr, Bool, true, false, if◌then◌else◌, not, nat_le, ◌&&◌, ◌==◌, Option, Some, None, refl, sym, ◌∙◌, ap, arith, ⊎_elim, subst}
use Rattle.std.specs.Option.{option_map}
use Rattle.std.proofs.lemmas.Bool.{cases_eq, cases_Bool, cases_lt, eq-eqb, and_parts, leb-true}
use Rattle.sota_units.specs.Rounding.{ONE, ceiling_by}
use Rattle.sota_units.specs.Limits.{BUDGET_LIMIT}
use Rattle.sota_hist.specs.Time.{is_closed, least_tick}
use Rattle.sota_network.specs.Network.{Net, IsNet, IsArc, IsNode, arc_at}
use Rattle.sota_network.specs.Grid.{plain_sum, best_of, best_sum, value_from, lo, hi}
use Rattle.sota_network.specs.Walks.{Walk, empty, step, IsLeastTime}
use Rattle.sota_network.specs.Reach.{reaches, in_region}
use Rattle.sota_network.specs.Reads.{Reads}
use Rattle.sota_network.specs.declared.network.Arc.{Arc}
use Rattle.sota_polfile.specs.Bracket.{Bracket, IsBracket, bracket_entry_of}
use Rattle.sota_polfile.specs.declared.bracket_entry.BracketEntry.{BracketEntry}
use Rattle.sota_polfile.specs.declared.bracket_row.BracketRow.{BracketRow}
use Rattle.sota_polfile.specs.declared.head.PolicyHead.{PolicyHead}
use Rattle.sota_check.specs.Bracketed.{lower_entry, lower_entries, lower, first_at, upper, IsBracketed}
use Rattle.sota_check.specs.Planned.{grid_entry, entry_if, IsPlannedBy}
use Rattle.sota_check.specs.PlannedBracket.{grid_bracket, first_budget_by, IsPlannedBracket}
use Rattle.sota_check.specs.Laws.{GridLaws}
use Rattle.sota_check.proofs.Planning.{plan-holds, plan-bound, region-parts, origin-inside}
use Rattle.sota_check.proofs.Standing.{row-there, row-valid, first-is, upper-is, upper-below, upper-dest, entry-upper}

-- what the laws of networks say besides of the upper grid of an ask
pub record IsUpperGrid (net : Net) (dest : ℕ) : Type 0 where
  pub upper : (i t : ℕ) → hi net dest i t ≡ value_from ceiling_by net dest (hi net dest) i t
  pub whole : (i t : ℕ) → hi net dest i t ≤ ONE
  pub made : (i t : ℕ) (table : ℕ → ℕ → ℕ) → i ≢ dest → ((j u : ℕ) → Reads net i t j u → table j u ≡ hi net dest j u) → hi net dest i t ≡ ceiling_by net.scale (best_sum net table i t)
  pub outward : (x : ℕ) → x ≤ ceiling_by net.scale x * net.scale
  pub greatest : (worth : Arc → ℕ) (e : ℕ) (arc : Arc) → arc_at net e ≡ Some arc → worth arc ≤ best_of net.arcs worth arc.tail

module _ (net : Net) (origin dest last : ℕ) (table : Bracket) (valid : IsNet net) (arcs : (e : ℕ) (arc : Arc) → arc_at net e ≡ Some arc → IsArc net arc) (grid : GridLaws net origin dest last) (above : IsUpperGrid net dest) (is : IsBracket table) (planned : IsPlannedBracket net origin dest last table) where
  dest-is : table.head.dest ≡ dest
  dest-is = ap (λ (h : PolicyHead). h.dest) planned.head

  lower-if : (b : Bool) (i t : ℕ) → option_map lower_entry (if b then Some (grid_bracket net dest i t) else None) ≡ entry_if b (grid_entry net dest i t)
  lower-if true i t = refl
  lower-if false i t = refl

  -- the lower side is the planner's policy
  pub lower-planned : IsPlannedBy net origin dest last table.head (lower_entries table)
  lower-planned = record {
    head_is = planned.head;
    entries = λ i t. ap (λ (o : Option BracketEntry). option_map lower_entry o) (planned.entries i t) ∙ lower-if (in_region net origin dest last i t) i t;
  }

  entry-at : (i t : ℕ) (b : Bool) → in_region net origin dest last i t ≡ b → bracket_entry_of table i t ≡ (if b then Some (grid_bracket net dest i t) else None)
  entry-at i t b inside = planned.entries i t ∙ ap (λ (x : Bool). if x then Some (grid_bracket net dest i t) else None) inside

  upper-inside : (i t : ℕ) → in_region net origin dest last i t ≡ true → upper table i t ≡ hi net dest i t
  upper-inside i t inside = omega (arith, entry-upper table is i t (grid_bracket net dest i t) (entry-at i t true inside), above.whole i t)

  upper-at : (i t : ℕ) → i ≡ dest → upper table i t ≡ hi net dest i t
  upper-at i t at = upper-dest table i t (at ∙ sym dest-is) ∙ sym (above.upper i t ∙ (rw (eq-eqb i dest at) refl))

  -- ---- first budgets

  first-dest : first_at table dest ≡ 0
  first-dest =
      let there = row-there table dest is.size (rw dest-is at is.head.dest.0) (rw dest-is at is.head.dest.1) in
      let none = ((row-valid table is dest there.0 there.1).numbers.dest (sym dest-is)).0 in
      first-is table dest 0 there.0 there.1 ∙ none

  -- who is not reached in time is below its first budget
  below-first : (i t : ℕ) (to : Option ℕ) → IsLeastTime net dest i dest to → reaches net dest dest i t ≡ false → t ≤ BUDGET_LIMIT → t < first_budget_by to
  below-first i t None none late small = omega arith
  below-first i t (Some n) least late small =
      ⊎_elim
      (λ (early : t < n). omega arith)
      (λ (enough : n ≤ t). absurd (let goes : reaches net dest dest i t ≡ true = grid.reach i dest t n least.walk enough in cc))
      (cases_lt t n)

  upper-late : (i t : ℕ) → IsNode net i → t ≤ BUDGET_LIMIT → i ≢ dest → reaches net dest dest i t ≡ false → upper table i t ≡ hi net dest i t
  upper-late i t node small off late =
      let nodes : table.head.nodes ≡ net.nodes = ap (λ (h : PolicyHead). h.nodes) planned.head in
      let there = row-there table i is.size node.0 (omega (arith, node.1, nodes)) in
      let row : BracketRow = there.0 in
      let to = planned.firsts i node off in
      let first : row.first ≡ first_budget_by to.0 = sym (first-is table i t row there.1) ∙ to.2 in
      let early : t < first_budget_by to.0 = below-first i t to.0 to.1 late small in
      upper-is table i t row there.1 (λ same. off (same ∙ dest-is)) ∙ upper-below row t (omega (arith, first, early)) ∙ sym (grid.below i t late)

  -- what an entry of the region reads
  upper-same : (i t : ℕ) → IsNode net i → t ≤ BUDGET_LIMIT → (i ≡ dest) ⊎ ((in_region net origin dest last i t ≡ true) ⊎ (reaches net dest dest i t ≡ false)) → upper table i t ≡ hi net dest i t
  upper-same i t node small (inl at) = upper-at i t at
  upper-same i t node small (inr (inl inside)) = upper-inside i t inside
  upper-same i t node small (inr (inr late)) = ⊎_elim (λ (at : i ≡ dest). upper-at i t at) (λ (off : i ≡ dest → ⊥). upper-late i t node small off late) (cases_eq i dest)

  upper-reads : (i t : ℕ) → t ≤ BUDGET_LIMIT → in_region net origin dest last i t ≡ true → (j u : ℕ) → Reads net i t j u → upper table j u ≡ hi net dest j u
  upper-reads i t small inside j u reads =
      let fits : IsArc net reads.arc = arcs reads.number reads.arc reads.is_arc in
      upper-same j u (omega (arith, fits.head.0, reads.head), omega (arith, fits.head.1, reads.head)) (omega (arith, small, reads.left)) (grid.closed i t j u inside reads)

  -- no arc exceeds an upper value
  upper-holds : (i t : ℕ) → t ≤ BUDGET_LIMIT → in_region net origin dest last i t ≡ true → (e : ℕ) (arc : Arc) → arc_at net e ≡ Some arc → arc.tail ≡ i → plain_sum arc (upper table) t ≤ upper table i t * net.scale
  upper-holds i t small inside e arc at tail =
      let off : i ≢ dest = (region-parts net origin dest last table.head (lower_entries table) grid lower-planned i t inside).0 in
      let made : hi net dest i t ≡ ceiling_by net.scale (best_sum net (upper table) i t) = above.made i t (upper table) off (upper-reads i t small inside) in
      let best : plain_sum arc (upper table) t ≤ best_sum net (upper table) i t = rw tail at (above.greatest (λ a. plain_sum a (upper table) t) e arc at) in
      rw (upper-inside i t inside, made) (omega (arith, best, above.outward (best_sum net (upper table) i t)))

  entry-inside : (i t : ℕ) (entry : BracketEntry) → bracket_entry_of table i t ≡ Some entry → in_region net origin dest last i t ≡ true
  entry-inside i t entry at = elim (cases_Bool (in_region net origin dest last i t)) [
    | inl inside ↦ inside
    | inr outside ↦ absurd (let none : bracket_entry_of table i t ≡ None = entry-at i t false outside in cc)
  ]

  -- a least time is at most a step and the least time after it
  falls : (arc : Arc) (e : ℕ) → arc_at net e ≡ Some arc → arc.tail ≢ dest → is_closed arc.time ≡ false → (from to : Option ℕ) → IsLeastTime net dest arc.tail dest from → IsLeastTime net dest arc.head dest to → first_budget_by from ≤ first_budget_by to + least_tick arc.time
  falls arc e at off opened None None from-is to-is = omega arith
  falls arc e at off opened (Some m) None from-is to-is = omega arith
  falls arc e at off opened None (Some n) from-is to-is = absurd (from-is (least_tick arc.time + n) (step e arc at off opened to-is.walk))
  falls arc e at off opened (Some m) (Some n) from-is to-is =
      let short : m ≤ least_tick arc.time + n = from-is.least (least_tick arc.time + n) (step e arc at off opened to-is.walk) in
      omega arith

  here-least : (i : ℕ) → i ≡ dest → IsLeastTime net dest i dest (Some 0)
  here-least i at = record { walk = subst (λ (x : ℕ). Walk net dest x dest 0) (sym at) (empty {i = dest}); least = λ m walk. omega arith }

  potential : (e : ℕ) (arc : Arc) → arc_at net e ≡ Some arc → arc.tail ≢ table.head.dest → is_closed arc.time ≡ false → first_at table arc.tail ≤ first_at table arc.head + least_tick arc.time
  potential e arc at off opened =
      let fits : IsArc net arc = arcs e arc at in
      let away : arc.tail ≢ dest = λ same. off (same ∙ sym dest-is) in
      let from = planned.firsts arc.tail fits.tail away in
      ⊎_elim
      (λ (here : arc.head ≡ dest).
      let zero_at : first_at table arc.head ≡ 0 = ap (first_at table) here ∙ first-dest in
      omega (arith, from.2, zero_at, falls arc e at away opened from.0 (Some 0) from.1 (here-least arc.head here)))
      (λ (other : arc.head ≡ dest → ⊥).
      let to = planned.firsts arc.head fits.head other in
      omega (arith, from.2, to.2, falls arc e at away opened from.0 to.0 from.1 to.1))
      (cases_eq arc.head dest)

  small-of : (i t : ℕ) → in_region net origin dest last i t ≡ true → t ≤ BUDGET_LIMIT
  small-of i t inside =
      let budget : table.head.budget ≡ last = ap (λ (h : PolicyHead). h.budget) planned.head in
      omega (arith, region-last i t inside, budget, is.head.budget)
    where
      region-last : (i t : ℕ) → in_region net origin dest last i t ≡ true → t ≤ last
      region-last i t inside =
          let one = and_parts (not (i == dest)) (nat_le t last && (reaches net dest dest i t && reaches net dest i origin (last - t))) inside in
          let two = and_parts (nat_le t last) (reaches net dest dest i t && reaches net dest i origin (last - t)) one.1 in
          leb-true t last two.0

  pub bracket-holds : IsBracketed net table
  bracket-holds = record {
    certified = plan-holds net origin dest last table.head (lower_entries table) grid lower-planned;
    potential = potential;
    uppers = λ i t entry at e arc there tail.
        let inside = entry-inside i t entry at in
        upper-holds i t (small-of i t inside) inside e arc there tail;
  }

  pub lower-bound : lower table origin last ≡ lo net dest origin last
  lower-bound = plan-bound net origin dest last table.head (lower_entries table) grid lower-planned

  pub upper-bound : upper table origin last ≡ hi net dest origin last
  upper-bound =
      let start : table.head.origin ≡ origin = ap (λ (h : PolicyHead). h.origin) planned.head in
      let budget : table.head.budget ≡ last = ap (λ (h : PolicyHead). h.budget) planned.head in
      let nodes : table.head.nodes ≡ net.nodes = ap (λ (h : PolicyHead). h.nodes) planned.head in
      ⊎_elim
      (λ (at : origin ≡ dest). upper-at origin last at)
      (λ (off : origin ≡ dest → ⊥).
      elim (cases_Bool (reaches net dest dest origin last)) [
        | inl goes ↦ upper-inside origin last (origin-inside net origin dest last table.head (lower_entries table) grid lower-planned off goes)
        | inr late ↦ upper-late origin last (omega (arith, is.head.origin.0, start), omega (arith, is.head.origin.1, start, nodes)) (omega (arith, is.head.budget, budget)) off late
      ])
      (cases_eq origin dest)
