-- No cause is found in a bracket table exactly where it holds.
use Rattle.std.proofs.Common.{ℕ, zero, suc, ◌≡◌, ◌≢◌, ◌+◌, ◌-◌, ◌*◌, ◌<◌, ◌≤◌, ◌==◌, Bool, true, false, List, [], ◌∷◌, map, Option, Some, None, slice_get, refl, sym, ◌∙◌, ap, arith, ⊎_elim, inl, inr}
use Rattle.std.specs.Option.{option_map}
use Rattle.std.specs.List.{filter, list_any}
use Rattle.std.proofs.lemmas.Bool.{cases_Bool, cases_eq, eq-eqb, ne_eqb, lt-ltb, le-ltb, ltb-false, true≢false}
use Rattle.sota_hist.specs.Time.{is_closed, least_tick, least_of}
use Rattle.sota_network.specs.Network.{Net, arc_at}
use Rattle.sota_network.specs.Grid.{plain_sum}
use Rattle.sota_network.specs.declared.network.Arc.{Arc}
use Rattle.sota_polfile.specs.Bracket.{Bracket, bracket_row_of, bracket_entry_of}
use Rattle.sota_polfile.specs.declared.bracket_entry.BracketEntry.{BracketEntry}
use Rattle.sota_polfile.specs.declared.bracket_row.BracketRow.{BracketRow}
use Rattle.sota_polfile.specs.declared.entry.PolicyEntry.{PolicyEntry}
use Rattle.sota_check.specs.declared.verdict.Rejection.{Rejection}
use Rattle.sota_check.specs.declared.bracket_verdict.BracketRejection.{BracketRejection}
use Rattle.sota_check.specs.declared.bracket_verdict.BracketRejection.TheVariants as causes
use Rattle.sota_check.specs.Certified.{HoldsBy}
use Rattle.sota_check.specs.Bracketed.{lower_entry, lower_entries, lower, first_at, upper, IsBracketed}
use Rattle.sota_check.specs.Rejected.{entry_fault, first_cause}
use Rattle.sota_check.specs.BracketRejected.{is_steep, steep_node, of_lower, exceeds, upper_fault, bracket_entry_fault, bracket_row_rejection, bracket_rejection}
use Rattle.sota_check.proofs.Judged.{holds-passes, passes-holds}
use Rattle.sota_check.proofs.Loops.{passed, clear, either-none}
use Rattle.sota_check.proofs.Standing.{entry-is, entry-row, entry-place, place-entry}

map-none : {A B : Type 0} (f : A → B) (o : Option A) → option_map f o ≡ None → o ≡ None
map-none f None e = refl
map-none f (Some x) e = absurd (cc)

-- ---- arcs that pass a test

module _ (test : Arc → Bool) where
  none-pass-cons : (a arc : Arc) (arcs : List Arc) (b : Bool) → test a ≡ b → least_of (map (λ x. x.tail) (filter test (a ∷ arcs))) ≡ None → (least_of (map (λ x. x.tail) (filter test arcs)) ≡ None → (j : ℕ) → slice_get arcs j ≡ Some arc → test arc ≡ false) → (k : ℕ) → slice_get (a ∷ arcs) k ≡ Some arc → test arc ≡ false
  none-pass-cons a arc arcs true yes-a none again k at = absurd (let some : least_of (map (λ (x : Arc). x.tail) (filter test (a ∷ arcs))) ≡ least_of (a.tail ∷ map (λ (x : Arc). x.tail) (filter test arcs)) = rw yes-a refl in cc)
  none-pass-cons a arc arcs false no-a none again zero at = let same : a ≡ arc = cc in rw (← same) no-a
  none-pass-cons a arc arcs false no-a none again (suc j) at = again (rw no-a at none) j at

  -- where the list of all that pass is empty, none passes
  pub none-pass : (arcs : List Arc) → least_of (map (λ arc. arc.tail) (filter test arcs)) ≡ None → (k : ℕ) (arc : Arc) → slice_get arcs k ≡ Some arc → test arc ≡ false
  none-pass [] none k arc at = absurd (cc)
  none-pass (a ∷ arcs) none k arc at = none-pass-cons a arc arcs (test a) refl none (λ left j here. none-pass arcs left j arc here) k at

  pub pass-none : (arcs : List Arc) → ((k : ℕ) (arc : Arc) → slice_get arcs k ≡ Some arc → test arc ≡ false) → least_of (map (λ arc. arc.tail) (filter test arcs)) ≡ None
  pass-none [] each = refl
  pass-none (a ∷ arcs) each =
      let here : test a ≡ false = each 0 a refl in
      rw here (pass-none arcs (λ k arc at. each (suc k) arc at))

  any-none-cons : (a arc : Arc) (arcs : List Arc) (b : Bool) → test a ≡ b → list_any test (a ∷ arcs) ≡ false → (list_any test arcs ≡ false → (j : ℕ) → slice_get arcs j ≡ Some arc → test arc ≡ false) → (k : ℕ) → slice_get (a ∷ arcs) k ≡ Some arc → test arc ≡ false
  any-none-cons a arc arcs true yes-a none again k at = absurd (let some : list_any test (a ∷ arcs) ≡ true = rw yes-a refl in cc)
  any-none-cons a arc arcs false no-a none again zero at = let same : a ≡ arc = cc in rw (← same) no-a
  any-none-cons a arc arcs false no-a none again (suc j) at = again (rw no-a at none) j at

  pub any-none : (arcs : List Arc) → list_any test arcs ≡ false → (k : ℕ) (arc : Arc) → slice_get arcs k ≡ Some arc → test arc ≡ false
  any-none [] none k arc at = absurd (cc)
  any-none (a ∷ arcs) none k arc at = any-none-cons a arc arcs (test a) refl none (λ left j here. any-none arcs left j arc here) k at

  pub none-any : (arcs : List Arc) → ((k : ℕ) (arc : Arc) → slice_get arcs k ≡ Some arc → test arc ≡ false) → list_any test arcs ≡ false
  none-any [] each = refl
  none-any (a ∷ arcs) each =
      let here : test a ≡ false = each 0 a refl in
      rw here (none-any arcs (λ k arc at. each (suc k) arc at))

  pub some-any : (arcs : List Arc) (k : ℕ) (arc : Arc) → slice_get arcs k ≡ Some arc → test arc ≡ true → list_any test arcs ≡ true
  some-any arcs k arc at holds = elim (cases_Bool (list_any test arcs)) [
    | inl some ↦ some
    | inr none ↦ absurd (true≢false (sym holds ∙ any-none arcs none k arc at))
  ]

-- arcs by their numbers
pub numbered : (net : Net) (test : Arc → Bool) → ((k : ℕ) (arc : Arc) → slice_get net.arcs k ≡ Some arc → test arc ≡ false) → (e : ℕ) (arc : Arc) → arc_at net e ≡ Some arc → test arc ≡ false
numbered net test each zero arc at = absurd (cc)
numbered net test each (suc k) arc at = each k arc at

pub numbered-any : (net : Net) (test : Arc → Bool) (e : ℕ) (arc : Arc) → arc_at net e ≡ Some arc → test arc ≡ true → list_any test net.arcs ≡ true
numbered-any net test zero arc at holds = absurd (cc)
numbered-any net test (suc k) arc at holds = some-any test net.arcs k arc at holds

-- ---- first budgets

module _ (table : Bracket) (arc : Arc) where
  pub flat-falls : is_steep table arc ≡ false → arc.tail ≢ table.head.dest → is_closed arc.time ≡ false → first_at table arc.tail ≤ first_at table arc.head + least_tick arc.time
  flat-falls flat off opened =
      let off_is : (arc.tail == table.head.dest) ≡ false = ne_eqb _ _ off in
      ltb-false _ _ (rw (off_is, opened) at flat)

  pub falls-flat : (arc.tail ≢ table.head.dest → is_closed arc.time ≡ false → first_at table arc.tail ≤ first_at table arc.head + least_tick arc.time) → is_steep table arc ≡ false
  falls-flat falls =
      ⊎_elim
      (λ (at : arc.tail ≡ table.head.dest). let here : (arc.tail == table.head.dest) ≡ true = eq-eqb _ _ at in rw here refl)
      (λ (off : arc.tail ≡ table.head.dest → ⊥). by off (is_closed arc.time) refl)
      (cases_eq arc.tail table.head.dest)
    where
      by : (arc.tail ≡ table.head.dest → ⊥) → (b : Bool) → is_closed arc.time ≡ b → is_steep table arc ≡ false
      by off true closed = let off_is : (arc.tail == table.head.dest) ≡ false = ne_eqb _ _ off in rw (off_is, closed) refl
      by off false opened = let off_is : (arc.tail == table.head.dest) ≡ false = ne_eqb _ _ off in rw (off_is, opened) (le-ltb _ _ (falls off opened))

-- ---- upper values

module _ (w : ℕ → ℕ → ℕ) (i t most : ℕ) (arc : Arc) where
  pub within-most : exceeds w i t most arc ≡ false → arc.tail ≡ i → plain_sum arc w t ≤ most
  within-most fine tail =
      let here : (arc.tail == i) ≡ true = eq-eqb _ _ tail in
      ltb-false _ _ (rw here at fine)

  pub is-more : arc.tail ≡ i → most < plain_sum arc w t → exceeds w i t most arc ≡ true
  is-more tail more =
      let here : (arc.tail == i) ≡ true = eq-eqb _ _ tail in
      rw here (lt-ltb _ _ more)

  pub most-within : (arc.tail ≡ i → plain_sum arc w t ≤ most) → exceeds w i t most arc ≡ false
  most-within fine =
      ⊎_elim
      (λ (tail : arc.tail ≡ i). let here : (arc.tail == i) ≡ true = eq-eqb _ _ tail in rw here (le-ltb _ _ (fine tail)))
      (λ (astray : arc.tail ≡ i → ⊥). let here : (arc.tail == i) ≡ false = ne_eqb _ _ astray in rw here refl)
      (cases_eq arc.tail i)

module _ (net : Net) (w : ℕ → ℕ → ℕ) (i t : ℕ) where
  pub upper-cause : list_any (exceeds w i t (w i t * net.scale)) net.arcs ≡ true → upper_fault net w i t ≡ Some (causes.Upper i t)
  unfolding upper_fault
  upper-cause some = rw some refl

  pub upper-fine : list_any (exceeds w i t (w i t * net.scale)) net.arcs ≡ false → upper_fault net w i t ≡ None
  unfolding upper_fault
  upper-fine none = rw none refl

  upper-none : upper_fault net w i t ≡ None → list_any (exceeds w i t (w i t * net.scale)) net.arcs ≡ false
  upper-none none = elim (cases_Bool (list_any (exceeds w i t (w i t * net.scale)) net.arcs)) [
    | inl some ↦ absurd (let cause = upper-cause some in cc)
    | inr fine ↦ fine
  ]

-- ---- entries

module _ (net : Net) (table : Bracket) (i t : ℕ) (entry : BracketEntry) where
  pub lower-first : (cause : BracketRejection) → option_map of_lower (entry_fault net (lower table) i t (lower_entry entry)) ≡ Some cause → bracket_entry_fault net table i t entry ≡ Some cause
  unfolding bracket_entry_fault
  lower-first cause found = rw found refl

  pub upper-next : option_map of_lower (entry_fault net (lower table) i t (lower_entry entry)) ≡ None → bracket_entry_fault net table i t entry ≡ upper_fault net (upper table) i t
  unfolding bracket_entry_fault
  upper-next none = rw none refl

  entry-parts : bracket_entry_fault net table i t entry ≡ None → (entry_fault net (lower table) i t (lower_entry entry) ≡ None) × (upper_fault net (upper table) i t ≡ None)
  unfolding bracket_entry_fault
  entry-parts none =
      let both = either-none (option_map of_lower (entry_fault net (lower table) i t (lower_entry entry))) (upper_fault net (upper table) i t) none in
      (map-none of_lower (entry_fault net (lower table) i t (lower_entry entry)) both.0, both.1)

module _ (net : Net) (table : Bracket) where
  -- what stands in a row that was passed
  entry-passed : first_cause (bracket_row_rejection net table) 1 table.rows ≡ None → (i t : ℕ) (entry : BracketEntry) → bracket_entry_of table i t ≡ Some entry → bracket_entry_fault net table i t entry ≡ None
  entry-passed none i t entry at =
      let stands = entry-row table i t entry at in
      let row : BracketRow = stands.0 in
      let place = entry-place row.first row.entries t entry stands.2 in
      let budget : row.first + (t - row.first) ≡ t = omega (arith, place.0) in
      rw budget at (passed (bracket_entry_fault net table i) row.first (t - row.first) row.entries entry (row-passed i row stands.1) place.1)
    where
      row-passed : (i : ℕ) (row : BracketRow) → bracket_row_of table i ≡ Some row → bracket_row_rejection net table i row ≡ None
      row-passed zero row here = absurd (cc)
      row-passed (suc k) row here =
          let number : 1 + k ≡ suc k = omega arith in
          rw number at (passed (bracket_row_rejection net table) 1 k table.rows row none here)

  pub bracketed-if : table.head.nodes ≡ net.nodes → table.head.scale ≡ net.scale → steep_node net table ≡ None → first_cause (bracket_row_rejection net table) 1 table.rows ≡ None → IsBracketed net table
  unfolding steep_node
  bracketed-if nodes scale flat none = record {
    certified = record {
      nodes = nodes;
      scale = scale;
      entries = λ i t entry at. lower-holds i t entry at (bracket_entry_of table i t) refl;
    };
    potential = λ e arc at off opened. flat-falls table arc (numbered net (is_steep table) (none-pass (is_steep table) net.arcs flat) e arc at) off opened;
    uppers = λ i t entry at e arc is tail.
        let parts = entry-parts net table i t entry (entry-passed none i t entry at) in
        within-most (upper table) i t (upper table i t * net.scale) arc (numbered net (exceeds (upper table) i t (upper table i t * net.scale)) (any-none (exceeds (upper table) i t (upper table i t * net.scale)) net.arcs (upper-none net (upper table) i t parts.1)) e arc is) tail;
  }
    where
      lower-holds : (i t : ℕ) (entry : PolicyEntry) → lower_entries table i t ≡ Some entry → (o : Option BracketEntry) → bracket_entry_of table i t ≡ o → HoldsBy net (lower table) i t entry
      lower-holds i t entry at None is = absurd (let gone : lower_entries table i t ≡ None = ap (λ (o : Option BracketEntry). option_map lower_entry o) is in cc)
      lower-holds i t entry at (Some both) is =
          let same : lower_entry both ≡ entry = let there : lower_entries table i t ≡ Some (lower_entry both) = ap (λ (o : Option BracketEntry). option_map lower_entry o) is in cc in
          rw (← same) (passes-holds net (lower table) i t (lower_entry both) (entry-parts net table i t both (entry-passed none i t both is)).0)

  entry-clear : IsBracketed net table → (i t : ℕ) (entry : BracketEntry) → bracket_entry_of table i t ≡ Some entry → bracket_entry_fault net table i t entry ≡ None
  entry-clear holds i t entry at =
      let there : lower_entries table i t ≡ Some (lower_entry entry) = ap (λ (o : Option BracketEntry). option_map lower_entry o) at in
      let fine : entry_fault net (lower table) i t (lower_entry entry) ≡ None = holds-passes net (lower table) i t (lower_entry entry) (holds.certified.entries i t (lower_entry entry) there) in
      upper-next net table i t entry (ap (λ (o : Option Rejection). option_map of_lower o) fine)
      ∙ upper-fine net (upper table) i t (none-any (exceeds (upper table) i t (upper table i t * net.scale)) net.arcs (λ k arc is. most-within (upper table) i t (upper table i t * net.scale) arc (λ tail. holds.uppers i t entry at (suc k) arc is tail)))

  pub entries-clear : IsBracketed net table → first_cause (bracket_row_rejection net table) 1 table.rows ≡ None
  entries-clear holds =
      clear (bracket_row_rejection net table) 1 table.rows (λ k row at.
      clear (bracket_entry_fault net table (1 + k)) row.first row.entries (λ j entry here.
      let number : 1 + k ≡ suc k = omega arith in
      let stands : bracket_row_of table (suc k) ≡ Some row = at in
      let there : bracket_entry_of table (suc k) (row.first + j) ≡ Some entry = entry-is table (suc k) (row.first + j) row stands ∙ place-entry row.first j row.entries entry here in
      rw number (entry-clear holds (suc k) (row.first + j) entry there)))

  pub flat-all : IsBracketed net table → steep_node net table ≡ None
  unfolding steep_node
  flat-all holds = pass-none (is_steep table) net.arcs (λ k arc at. falls-flat table arc (λ off opened. holds.potential (suc k) arc at off opened))

  -- ---- the first cause

  pub rejected-size : (table.head.nodes ≡ net.nodes → ⊥) → bracket_rejection net table ≡ Some causes.Size
  unfolding bracket_rejection
  rejected-size nodes = rw (ne_eqb table.head.nodes net.nodes nodes) refl

  pub rejected-scale : table.head.nodes ≡ net.nodes → (table.head.scale ≡ net.scale → ⊥) → bracket_rejection net table ≡ Some causes.Scale
  unfolding bracket_rejection
  rejected-scale nodes scale = rw (eq-eqb table.head.nodes net.nodes nodes, ne_eqb table.head.scale net.scale scale) refl

  pub rejected-steep : table.head.nodes ≡ net.nodes → table.head.scale ≡ net.scale → (node : ℕ) → steep_node net table ≡ Some node → bracket_rejection net table ≡ Some (causes.Potential node)
  unfolding bracket_rejection
  rejected-steep nodes scale node found = rw (eq-eqb table.head.nodes net.nodes nodes, eq-eqb table.head.scale net.scale scale, found) refl

  pub rejected-row : table.head.nodes ≡ net.nodes → table.head.scale ≡ net.scale → steep_node net table ≡ None → bracket_rejection net table ≡ first_cause (bracket_row_rejection net table) 1 table.rows
  unfolding bracket_rejection
  rejected-row nodes scale flat = rw (eq-eqb table.head.nodes net.nodes nodes, eq-eqb table.head.scale net.scale scale, flat) refl

  pub passed-holds : bracket_rejection net table ≡ None → IsBracketed net table
  passed-holds none =
      ⊎_elim
      (λ (nodes : table.head.nodes ≡ net.nodes).
      ⊎_elim
      (λ (scale : table.head.scale ≡ net.scale). by nodes scale (steep_node net table) refl)
      (λ (other : table.head.scale ≡ net.scale → ⊥). absurd (let cause = rejected-scale nodes other in cc))
      (cases_eq table.head.scale net.scale))
      (λ (other : table.head.nodes ≡ net.nodes → ⊥). absurd (let cause = rejected-size other in cc))
      (cases_eq table.head.nodes net.nodes)
    where
      by : table.head.nodes ≡ net.nodes → table.head.scale ≡ net.scale → (o : Option ℕ) → steep_node net table ≡ o → IsBracketed net table
      by nodes scale (Some node) steep = absurd (let cause = rejected-steep nodes scale node steep in cc)
      by nodes scale None flat = bracketed-if nodes scale flat (sym (rejected-row nodes scale flat) ∙ none)

  pub holds-passed : IsBracketed net table → bracket_rejection net table ≡ None
  holds-passed holds = rejected-row holds.certified.nodes holds.certified.scale (flat-all holds) ∙ entries-clear holds
