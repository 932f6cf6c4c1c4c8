-- Tables that are cut for an edit.
use Rattle.std.proofs.Common.{ℕ, zero, suc, ◌≡◌, ◌≢◌, ◌+◌, ◌-◌, ◌<◌, ◌≤◌, min, List, length, get_or, set, Option, None, Some, refl, sym, ◌∙◌, ap, arith, subst, ⊎_elim}
use Rattle.std.proofs.lemmas.Bool.{cases_eq}
use Rattle.std.proofs.lemmas.List.{ext_get_or, set-get_or}
use Rattle.std.proofs.lemmas.Option.{none-some, get_or_from_slice_get}
use Rattle.sota_hist.specs.Time.{IsTime, total, first_difference}
use Rattle.sota_network.specs.Network.{Net, IsNet, IsNode, arc_at, replaced}
use Rattle.sota_network.specs.declared.network.Arc.{Arc}
use Rattle.sota_kept.specs.Ticks.{END_LIMIT, up_to}
use Rattle.sota_kept.specs.Edits.{first_affected, IsEdit}
use Rattle.sota_kept.specs.NodeTables.{NodeTable, cut_to}
use Rattle.sota_kept.specs.States.{after_edit}
use Rattle.sota_kept.specs.TableLists.{TableLists, IsKept, EntriesKept, state_of, table_of}
use Rattle.sota_bounds.specs.Search.{time_at}
use Rattle.sota_tables.specs.Views.{TablesView, HasNode, OnlyAt, SameNodes, lists_of, table_at}
use Rattle.sota_session.specs.Cuts.{HasCuts, IsCutFor}
use Rattle.sota_session.specs.State.{changed_state, edited_state, state_edited}

-- ---- a loop over the nodes: so many are cut, and the others are as before
pub record AreCut (budgets : List (Option ℕ)) (index : ℕ) (old new : TablesView) : Type 0 where
  pub nodes : SameNodes old new
  pub done : (i : ℕ) → HasNode old i → i ≤ index → table_at new i ≡ cut_to (up_to END_LIMIT (time_at budgets i)) (table_at old i)
  pub rest : (i : ℕ) → HasNode old i → index < i → table_at new i ≡ table_at old i

pub cut-one : (budgets : List (Option ℕ)) (index front : ℕ) (old mid new : TablesView) → AreCut budgets index old mid → index < length budgets → front ≡ up_to END_LIMIT (get_or budgets index None)
    → table_at new (index + 1) ≡ cut_to front (table_at mid (index + 1)) → OnlyAt (index + 1) mid new → AreCut budgets (index + 1) old new
cut-one budgets index front old mid new is within bound entries only =
    let place : index + 1 - 1 ≡ index = omega arith in
    let there : time_at budgets (index + 1) ≡ get_or budgets index None = ap (λ (j : ℕ). get_or budgets j None) place in
    record {
      nodes = record { dest = only.dest ∙ is.nodes.dest; nodes = only.nodes ∙ is.nodes.nodes; bases = only.bases ∙ is.nodes.bases };
      done = λ i node high.
          ⊎_elim
          (λ (same : i ≡ index + 1).
          let before : table_at mid (index + 1) ≡ table_at old (index + 1) = is.rest (index + 1) (rw same at node) (let less : index < index + 1 = omega arith in less) in
          rw (same, there) (entries ∙ ap (λ (n : ℕ). cut_to n (table_at mid (index + 1))) bound ∙ ap (cut_to (up_to END_LIMIT (get_or budgets index None))) before))
          (λ (apart : i ≢ index + 1). only.others i node.0 apart ∙ is.done i node (let less : i ≤ index = omega (arith, high, apart) in less))
          (cases_eq i (index + 1));
      rest = λ i node above. only.others i node.0 (λ e. omega (arith, above, e)) ∙ is.rest i node (let less : index < i = omega (arith, above) in less);
    }

-- ---- another time of an arc
same-time : (net : Net) (number : ℕ) (arc : Arc) → arc_at net number ≡ Some arc → replaced net number arc.time ≡ net
same-time net zero arc at = absurd (none-some arc at)
same-time net (suc k) arc at =
    let there : get_or net.arcs k arc ≡ arc = get_or_from_slice_get net.arcs k arc arc at in
    let same : set net.arcs k arc ≡ net.arcs = ap (λ (a : Arc). set net.arcs k a) (sym there) ∙ set-get_or net.arcs k arc in
    rw (at, replaced) (rw same refl)

same-nodes : (net : Net) (number : ℕ) (arc : Arc) (time : List (ℕ × ℕ)) → arc_at net number ≡ Some arc → (replaced net number time).nodes ≡ net.nodes
same-nodes net zero arc time at = refl
same-nodes net (suc k) arc time at = rw (at, replaced) refl

-- where no entry is kept for a destination, nothing depends on the times
free-kept : (net next : Net) (held : TableLists) → held.dest ≡ None → next.nodes ≡ net.nodes → IsKept held net → IsKept held next
free-kept net next held none nodes kept =
    let entries : EntriesKept net held None = subst (EntriesKept net held) none kept.entries in
    record {
      nodes = (kept.nodes.0 ∙ sym nodes, kept.nodes.1 ∙ sym nodes);
      entries = subst (EntriesKept next held) (sym none) (λ i node. entries i (node.0, (let high : i ≤ net.nodes = omega (arith, node.1, nodes) in high)));
    }

-- an edit of an arc that the network has, of tables that are right for it, with the laws of edits
pub record IsEdited (net : Net) (number : ℕ) (time : List (ℕ × ℕ)) (old : TablesView) : Type 0 where
  pub valid : IsNet net
  pub kept : IsKept (lists_of old) net
  pub rises : IsTime time
  pub sums : total time ≤ net.scale
  pub table : (v : TablesView) (i : ℕ) → table_of (lists_of v) i ≡ table_at v i
  pub edited : (first dest : ℕ) (arc : Arc) (new : TableLists) → IsEdit net number arc first time → IsKept (lists_of old) net → old.dest ≡ Some dest → new.dest ≡ Some dest
      → (length new.fronts ≡ net.nodes) × (length new.bases ≡ net.nodes)
      → ((i : ℕ) → IsNode net i → table_of new i ≡ cut_to (first_affected net dest arc first i) (table_of (lists_of old) i))
      → IsKept new (replaced net number time)
  pub edited_state : (first dest : ℕ) (arc : Arc) (new : TableLists) → old.dest ≡ Some dest → new.dest ≡ Some dest → new.bases ≡ old.bases → length new.fronts ≡ net.nodes
      → ((i : ℕ) → IsNode net i → (table_of new i).front ≡ min (table_of (lists_of old) i).front (first_affected net dest arc first i))
      → state_of new ≡ after_edit net arc first (state_of (lists_of old))

module _ (net : Net) (number : ℕ) (time : List (ℕ × ℕ)) (old : TablesView) (is : IsEdited net number time old) where
  -- ---- each node is cut
  module _ (new : TablesView) (budgets : List (Option ℕ)) (same : SameNodes old new)
      (cut : (i : ℕ) → HasNode old i → table_at new i ≡ cut_to (up_to END_LIMIT (time_at budgets i)) (table_at old i)) where
    has-node : (i : ℕ) → IsNode net i → HasNode old i
    has-node i node = (node.0, (let high : i ≤ length old.fronts = omega (arith, node.1, is.kept.nodes.0) in high))

    same-bases : new.bases ≡ old.bases
    same-bases =
        ext_get_or 0 new.bases old.bases same.bases
        (λ k less.
        let at : suc k - 1 ≡ k = omega arith in
        let few : suc k ≤ length old.fronts = omega (arith, less, same.bases, is.kept.nodes.0, is.kept.nodes.1) in
        let here : (table_at new (suc k)).base ≡ (table_at old (suc k)).base = ap (λ (s : NodeTable). s.base) (cut (suc k) ((let low : 1 ≤ suc k = omega arith in low), few)) in
        subst (λ (j : ℕ). get_or new.bases j 0 ≡ get_or old.bases j 0) at here)

    module _ (arc : Arc) (found : arc_at net number ≡ Some arc) (has : HasCuts net old.dest arc time budgets) where
      cut-at : (i : ℕ) → IsNode net i → table_of (lists_of new) i ≡ cut_to (first_affected net has.dest arc has.first i) (table_of (lists_of old) i)
      cut-at i node =
          is.table new i ∙ cut i (has-node i node) ∙ ap (λ (n : ℕ). cut_to n (table_at old i)) (has.value i node)
          ∙ ap (cut_to (first_affected net has.dest arc has.first i)) (sym (is.table old i))

      cut-kept : IsKept (lists_of new) (replaced net number time)
      cut-kept =
          is.edited has.first has.dest arc (lists_of new) (record { valid = is.valid; found = found; rises = is.rises; sums = is.sums; same = has.same }) is.kept has.towards (same.dest ∙ has.towards)
          (same.nodes ∙ is.kept.nodes.0, same.bases ∙ is.kept.nodes.1) cut-at

      cut-state : state_of (lists_of new) ≡ state_edited net number time (state_of (lists_of old))
      cut-state =
          let state : state_of (lists_of new) ≡ after_edit net arc has.first (state_of (lists_of old)) =
          is.edited_state has.first has.dest arc (lists_of new) has.towards (same.dest ∙ has.towards) same-bases (same.nodes ∙ is.kept.nodes.0)
          (λ i node. ap (λ (s : NodeTable). s.front) (cut-at i node)) in
          state
          ∙ sym (ap (λ (first : Option ℕ). changed_state net arc first (state_of (lists_of old))) has.differs)
          ∙ sym (ap (λ (a : Option Arc). edited_state net a time (state_of (lists_of old))) found)

    cuts-at : (cuts : Option (List (Option ℕ))) → cuts ≡ Some budgets → IsCutFor net old.dest number time cuts → IsCutFor net old.dest number time (Some budgets)
    cuts-at cuts are for = subst (IsCutFor net old.dest number time) are for

    pub all-kept : (cuts : Option (List (Option ℕ))) → cuts ≡ Some budgets → IsCutFor net old.dest number time cuts → IsKept (lists_of new) (replaced net number time)
    all-kept cuts are for = let at = cuts-at cuts are for in cut-kept at.edited at.found at.cuts_are

    pub all-state : (cuts : Option (List (Option ℕ))) → cuts ≡ Some budgets → IsCutFor net old.dest number time cuts → state_of (lists_of new) ≡ state_edited net number time (state_of (lists_of old))
    all-state cuts are for = let at = cuts-at cuts are for in cut-state at.edited at.found at.cuts_are

  -- ---- or none
  no-cut : IsCutFor net old.dest number time None → IsKept (lists_of old) (replaced net number time)
  no-cut for =
      ⊎_elim
      (λ (free : old.dest ≡ None). free-kept net (replaced net number time) (lists_of old) free (same-nodes net number for.edited time for.found) is.kept)
      (λ (equal : (for.edited.time ≡ time) × (first_difference for.edited.time time ≡ None)).
      subst (λ (next : Net). IsKept (lists_of old) next) (sym (ap (replaced net number) (sym equal.0) ∙ same-time net number for.edited for.found)) is.kept)
      for.cuts_are

  pub none-kept : (cuts : Option (List (Option ℕ))) → cuts ≡ None → IsCutFor net old.dest number time cuts → IsKept (lists_of old) (replaced net number time)
  none-kept cuts are for = no-cut (subst (IsCutFor net old.dest number time) are for)
