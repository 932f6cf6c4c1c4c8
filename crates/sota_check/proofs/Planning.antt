-- The planner's own policy holds.
use Rattle.std.proofs.Common.{ℕ, ◌≡◌, ◌≢◌, ◌+◌, ◌-◌, ◌*◌, ◌<◌, ◌≤◌, ◌⊎◌, inl, inr, Bool, true, false, not, ◌&&◌, ◌==◌, nat_le, Option, Some, None, unwrap_or, refl, sym, ◌∙◌, ap, arith, ⊎_elim, subst, length, slice_get}
use Rattle.std.proofs.lemmas.Bool.{cases_eq, cases_Bool, eqb-false, and_parts, not-true, true≢false, eq-eqb, ne_eqb, le-leb, and_from, leb-true}
use Rattle.std.proofs.lemmas.Option.{slice_get_cases, slice_get_within}
use Rattle.std.proofs.Math.Nat.{div-mul-le_self, zero-div}
use Rattle.sota_units.specs.Rounding.{floor_by}
use Rattle.sota_network.specs.Network.{Net, arc_at}
use Rattle.sota_network.specs.Grid.{plain_sum, best_sum, lo, choice, choice_of, IsFirstBest}
use Rattle.sota_network.specs.Walks.{empty, IsLeastTime}
use Rattle.sota_network.specs.Reach.{reaches, in_region}
use Rattle.sota_network.specs.Reads.{Reads}
use Rattle.sota_network.specs.Region.{is_between}
use Rattle.sota_polfile.specs.declared.entry.PolicyEntry.{PolicyEntry}
use Rattle.sota_polfile.specs.declared.row.PolicyRow.{PolicyRow}
use Rattle.sota_polfile.specs.declared.head.PolicyHead.{PolicyHead}
use Rattle.sota_polfile.specs.Table.{Table, entry_of}
use Rattle.sota_check.specs.Certified.{Entries, value_by, HoldsBy, IsCertifiedBy}
use Rattle.sota_check.specs.Laws.{GridLaws}
use Rattle.sota_check.specs.Planned.{grid_entry, entry_if, ask_head, IsPlannedBy, IsPlannedPolicy, AreGridRows, IsGridRow, IsPlanFile}
use Rattle.sota_check.proofs.Judged.{AreEntries, StandInRows}
use Rattle.sota_check.proofs.Keeping.{value-dest, value-elsewhere}

module _ (net : Net) (origin dest last : ℕ) (head : PolicyHead) (plan : Entries) (grid : GridLaws net origin dest last) (planned : IsPlannedBy net origin dest last head plan) where
  abbrev value : ℕ → ℕ → ℕ
  value i t = value_by head.dest plan i t

  dest-is : head.dest ≡ dest
  dest-is = ap (λ (h : PolicyHead). h.dest) planned.head_is

  pub region-parts : (i t : ℕ) → in_region net origin dest last i t ≡ true → (i ≢ dest) × (reaches net dest dest i t ≡ true)
  region-parts i t inside =
      let one = and_parts (not (i == dest)) (nat_le t last && (reaches net dest dest i t && reaches net dest i origin (last - t))) inside in
      let two = and_parts (nat_le t last) (reaches net dest dest i t && reaches net dest i origin (last - t)) one.1 in
      let three = and_parts (reaches net dest dest i t) (reaches net dest i origin (last - t)) two.1 in
      (eqb-false i dest (not-true (i == dest) one.0), three.0)

  value-at : (i t : ℕ) → i ≢ dest → (b : Bool) → in_region net origin dest last i t ≡ b → plan i t ≡ entry_if b (grid_entry net dest i t)
  value-at i t off b is = planned.entries i t ∙ ap (λ (x : Bool). entry_if x (grid_entry net dest i t)) is

  apart : (i : ℕ) → i ≢ dest → i ≢ head.dest
  apart i off same = off (same ∙ dest-is)

  value-inside : (i t : ℕ) → in_region net origin dest last i t ≡ true → value i t ≡ lo net dest i t
  value-inside i t inside =
      let off : i ≢ dest = (region-parts i t inside).0 in
      value-elsewhere head.dest plan i t (apart i off) (Some (grid_entry net dest i t)) (value-at i t off true inside)

  -- where the destination is not reached in time, there is no value
  value-none : (i t : ℕ) → i ≢ dest → reaches net dest dest i t ≡ false → value i t ≡ lo net dest i t
  value-none i t off late =
      let out : in_region net origin dest last i t ≡ false =
      ⊎_elim
      (λ (inside : in_region net origin dest last i t ≡ true). absurd (true≢false (sym (region-parts i t inside).1 ∙ late)))
      (λ (outside : in_region net origin dest last i t ≡ false). outside)
      (cases_Bool (in_region net origin dest last i t)) in
      let none : lo net dest i t ≡ 0 = omega (arith, grid.order i t, grid.below i t late) in
      value-elsewhere head.dest plan i t (apart i off) None (value-at i t off false out) ∙ sym none

  value-whole : (i t : ℕ) → i ≡ dest → value i t ≡ lo net dest i t
  value-whole i t at = value-dest head.dest plan i t (at ∙ sym dest-is) ∙ sym (grid.lower i t ∙ (rw (eq-eqb i dest at) refl))

  -- what an entry of the region reads
  read-same : (i t : ℕ) → (i ≡ dest) ⊎ ((in_region net origin dest last i t ≡ true) ⊎ (reaches net dest dest i t ≡ false)) → value i t ≡ lo net dest i t
  read-same i t (inl at) = value-whole i t at
  read-same i t (inr (inl inside)) = value-inside i t inside
  read-same i t (inr (inr late)) = ⊎_elim (λ (at : i ≡ dest). value-whole i t at) (λ (off : i ≡ dest → ⊥). value-none i t off late) (cases_eq i dest)

  reads-same : (i t : ℕ) → in_region net origin dest last i t ≡ true → (j u : ℕ) → Reads net i t j u → value j u ≡ lo net dest j u
  reads-same i t inside j u reads = read-same j u (grid.closed i t j u inside reads)

  -- the arc of an entry is the planner's choice by the values of the policy
  holds-by : (i t : ℕ) → in_region net origin dest last i t ≡ true → (o : Option ℕ) → choice_of net.arcs (λ arc. plain_sum arc value t) i ≡ o → HoldsBy net value i t (grid_entry net dest i t)
  holds-by i t inside (Some e) is =
      let off : i ≢ dest = (region-parts i t inside).0 in
      let sum : ℕ = best_sum net value i t in
      let lower : lo net dest i t ≡ floor_by net.scale sum = grid.made i t value off (reads-same i t inside) in
      let best : IsFirstBest net (λ arc. plain_sum arc value t) i e = grid.first (λ arc. plain_sum arc value t) i e is in
      let number : unwrap_or (choice net dest i t) 0 ≡ e = ap (λ (o : Option ℕ). unwrap_or o 0) (grid.chosen i t value off (reads-same i t inside) ∙ is) in
      let below : floor_by net.scale sum * net.scale ≤ sum = div-mul-le_self sum net.scale in
      inr (best.arc, ap (arc_at net) number ∙ best.number, best.tail, (rw (best.greatest, lower) below))
  holds-by i t inside None is =
      let off : i ≢ dest = (region-parts i t inside).0 in
      let nothing : best_sum net value i t ≡ 0 = grid.none (λ arc. plain_sum arc value t) i is in
      let none : choice net dest i t ≡ None = grid.chosen i t value off (reads-same i t inside) ∙ is in
      inl (
        ap (λ (o : Option ℕ). unwrap_or o 0) none,
        grid.made i t value off (reads-same i t inside) ∙ ap (floor_by net.scale) nothing ∙ zero-div net.scale,
      )

  holds-inside : (i t : ℕ) → in_region net origin dest last i t ≡ true → HoldsBy net value i t (grid_entry net dest i t)
  holds-inside i t inside = holds-by i t inside (choice_of net.arcs (λ arc. plain_sum arc value t) i) refl

  entry-holds : (i t : ℕ) (entry : PolicyEntry) → (b : Bool) → in_region net origin dest last i t ≡ b → entry_if b (grid_entry net dest i t) ≡ Some entry → HoldsBy net value i t entry
  entry-holds i t entry true inside at =
      let same : grid_entry net dest i t ≡ entry = cc in
      subst (λ (x : PolicyEntry). HoldsBy net value i t x) same (holds-inside i t inside)
  entry-holds i t entry false outside at = absurd (cc)

  pub plan-holds : IsCertifiedBy net head plan
  plan-holds = record {
    nodes = ap (λ (h : PolicyHead). h.nodes) planned.head_is;
    scale = ap (λ (h : PolicyHead). h.scale) planned.head_is;
    entries = λ i t entry at. entry-holds i t entry (in_region net origin dest last i t) refl (sym (planned.entries i t) ∙ at);
  }

  -- the origin with the whole budget is in the region, where the destination is reached in time
  pub origin-inside : origin ≢ dest → reaches net dest dest origin last ≡ true → in_region net origin dest last origin last ≡ true
  origin-inside off goes =
      let here : reaches net dest origin origin (last - last) ≡ true = grid.reach origin origin (last - last) 0 (empty {i = origin}) (omega arith) in
      let in_time : nat_le last last ≡ true = le-leb last last (let z : last ≤ last = omega arith in z) in
      rw (ne_eqb origin dest off, in_time, goes, here) refl

  pub plan-bound : value origin last ≡ lo net dest origin last
  plan-bound =
      ⊎_elim
      (λ (at : origin ≡ dest). value-whole origin last at)
      (λ (off : origin ≡ dest → ⊥).
      ⊎_elim
      (λ (goes : reaches net dest dest origin last ≡ true). value-inside origin last (origin-inside off goes))
      (λ (late : reaches net dest dest origin last ≡ false). value-none origin last off late)
      (cases_Bool (reaches net dest dest origin last)))
      (cases_eq origin dest)

module _ (net : Net) (origin dest last : ℕ) (table : Table) (are : AreEntries table) (stand : StandInRows table) (rows : AreGridRows net origin dest last table.rows) where
  entry-by : (i t : ℕ) (o : Option PolicyEntry) → entry_of table i t ≡ o → o ≡ entry_if (in_region net origin dest last i t) (grid_entry net dest i t)
  entry-by i t (Some entry) at =
      let only = stand i t entry at in
      let row : PolicyRow = only.1 in
      let made = rows.inside only.0 only.2 row entry only.3 only.6 in
      let node : row.node ≡ i = only.4 in
      let time : t ≡ row.first + only.2 = only.5 in
      let inside : in_region net origin dest last i t ≡ true = ap (λ (x : ℕ). in_region net origin dest last x t) (sym node) ∙ ap (in_region net origin dest last row.node) time ∙ made.0 in
      let grid : entry ≡ grid_entry net dest i t = made.1 ∙ ap (grid_entry net dest row.node) (sym time) ∙ ap (λ (x : ℕ). grid_entry net dest x t) node in
      ap (λ (e : PolicyEntry). Some e) grid ∙ sym (ap (λ (b : Bool). entry_if b (grid_entry net dest i t)) inside)
  entry-by i t None at =
      ⊎_elim
      (λ (inside : in_region net origin dest last i t ≡ true).
      let covered = rows.covered i t inside in
      let row : PolicyRow = covered.1 in
      elim (slice_get_cases row.entries covered.2).1 [
        | inl here ↦
            let there : entry_of table row.node (row.first + covered.2) ≡ Some here.0 = are covered.0 covered.2 row here.0 covered.3 here.2 in
            let moved : entry_of table i t ≡ Some here.0 = ap (λ (x : ℕ). entry_of table x t) (sym covered.4) ∙ ap (entry_of table row.node) covered.5 ∙ there in
            absurd (cc)
        | inr past ↦ absurd (omega (arith, covered.6, past.0))
      ])
      (λ (outside : in_region net origin dest last i t ≡ false). sym (ap (λ (b : Bool). entry_if b (grid_entry net dest i t)) outside))
      (cases_Bool (in_region net origin dest last i t))

  pub plan-made : table.head ≡ ask_head net origin dest last → IsPlannedPolicy net origin dest last table
  plan-made head = record { head_is = head; entries = λ i t. entry-by i t (entry_of table i t) refl }

-- the rows of a planner's file are the grid's
module _ (net : Net) (origin dest last : ℕ) (table : Table)
    (between : (i t : ℕ) (to since : Option ℕ) → i ≢ dest → IsLeastTime net dest i dest to → IsLeastTime net dest origin i since → in_region net origin dest last i t ≡ is_between last to since t)
    (file : IsPlanFile net origin dest last table) where
  row-region : (row : PolicyRow) (is : IsGridRow net origin dest last row) (t : ℕ) → in_region net origin dest last row.node t ≡ (nat_le row.first t && nat_le (t + is.back) last)
  row-region row is t = between row.node t (Some row.first) (Some is.back) is.elsewhere is.onward is.came

  row-inside : (row : PolicyRow) → IsGridRow net origin dest last row → (j : ℕ) (entry : PolicyEntry) → slice_get row.entries j ≡ Some entry
      → (in_region net origin dest last row.node (row.first + j) ≡ true) × (entry ≡ grid_entry net dest row.node (row.first + j))
  row-inside row is j entry here =
      let within : j < length row.entries = slice_get_within row.entries j entry here in
      let count : row.first + length row.entries + is.back ≡ last + 1 = is.count in
      let first : nat_le row.first (row.first + j) ≡ true = le-leb row.first (row.first + j) (omega arith) in
      let end : nat_le (row.first + j + is.back) last ≡ true = le-leb (row.first + j + is.back) last (omega arith) in
      (row-region row is (row.first + j) ∙ and_from (nat_le row.first (row.first + j)) (nat_le (row.first + j + is.back) last) first end, is.entries j entry here)

  row-covers : (i t : ℕ) (row : PolicyRow) → IsGridRow net origin dest last row → row.node ≡ i → in_region net origin dest last i t ≡ true → (row.first ≤ t) × (t - row.first < length row.entries)
  row-covers i t row is node inside =
      let here : in_region net origin dest last row.node t ≡ true = ap (λ (x : ℕ). in_region net origin dest last x t) node ∙ inside in
      let parts = and_parts (nat_le row.first t) (nat_le (t + is.back) last) (sym (row-region row is t) ∙ here) in
      let first : row.first ≤ t = leb-true row.first t parts.0 in
      let end : t + is.back ≤ last = leb-true (t + is.back) last parts.1 in
      let count : row.first + length row.entries + is.back ≡ last + 1 = is.count in
      (first, (let z : t - row.first < length row.entries = omega arith in z))

  pub file-rows : AreGridRows net origin dest last table.rows
  file-rows = record {
    inside = λ k j row entry at here. row-inside row (file.rows k row at) j entry here;
    covered = λ i t inside.
        let found = file.nodes i t inside in
        let covers = row-covers i t found.1 (file.rows found.0 found.1 found.2) found.3 inside in
        (found.0, found.1, t - found.1.first, found.2, found.3, (let first : found.1.first ≤ t = covers.0 in let z : t ≡ found.1.first + (t - found.1.first) = omega arith in z), covers.1);
  }
