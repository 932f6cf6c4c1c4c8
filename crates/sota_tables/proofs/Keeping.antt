-- What the calls do to tables that are right for a network.
use Rattle.std.proofs.Common.{ℕ, ◌≡◌, ◌-◌, ◌≤◌, Bool, false, List, length, get_or, Option, None, Some, sym, ◌∙◌, ap, arith, ⊎_elim, subst}
use Rattle.std.proofs.lemmas.Bool.{cases_eq}
use Rattle.sota_network.specs.Network.{Net, IsNet, IsNode}
use Rattle.sota_kept.specs.Ticks.{END_LIMIT, least_to}
use Rattle.sota_kept.specs.NodeTables.{NodeTable, IsKeptAt, IsReadyAt, AreKept, AreReady, cut_to, emptied_table, rebased_table, prepared_table}
use Rattle.sota_kept.specs.TableLists.{IsKept, EntriesKept, table_of}
use Rattle.sota_tables.specs.Views.{TablesView, IsTablesView, HasNode, OnlyAt, table_at, lists_of}
use Rattle.sota_tables.proofs.Viewing.{table_of-held}

pub kept-new : (v : TablesView) (net : Net) → v.dest ≡ None → (length v.fronts ≡ net.nodes) × (length v.bases ≡ net.nodes) → ((i : ℕ) → HasNode v i → (table_at v i).front ≡ 0) → IsKept (lists_of v) net
kept-new v net none long fronts =
    let there : EntriesKept net (lists_of v) None =
    λ i node.
    subst (λ (s : NodeTable). s.front ≤ s.base) (sym (table_of-held v i))
    (let empty : (table_at v i).front ≡ 0 = fronts i (node.0, omega (arith, node.1, long.0)) in omega arith)
    in
    record { nodes = long; entries = subst (λ (d : Option ℕ). EntriesKept net (lists_of v) d) (sym none) there }

-- no entry is right always
abbrev pub EmptyIsKept : Type 0
EmptyIsKept = (net : Net) (dest i : ℕ) (s : NodeTable) → s.base ≤ END_LIMIT → IsKeptAt net dest i (emptied_table s)

pub kept-start : EmptyIsKept → (old new : TablesView) (net : Net) (dest : ℕ) → IsTablesView old → new.dest ≡ Some dest → (length new.fronts ≡ length old.fronts) × (length new.bases ≡ length old.bases)
    → ((i : ℕ) → HasNode old i → table_at new i ≡ emptied_table (table_at old i)) → net.nodes ≡ length old.fronts → IsNode net dest → IsKept (lists_of new) net
kept-start empty old new net dest is to long each nodes node =
    let there : EntriesKept net (lists_of new) (Some dest) = (
      node,
      λ i inside off.
          let has : HasNode old i = (inside.0, omega (arith, inside.1, nodes)) in
          subst (λ (s : NodeTable). IsKeptAt net dest i s) (sym (table_of-held new i ∙ each i has)) (empty net dest i (table_at old i) (is.tables i has.0 has.1).base),
    ) in
    record {
      nodes = (long.0 ∙ sym nodes, long.1 ∙ is.bases ∙ sym nodes);
      entries = subst (λ (d : Option ℕ). EntriesKept net (lists_of new) d) (sym to) there;
    }

-- what a cut leaves of a node, and the other nodes
cut-keeps : (P : ℕ → NodeTable → Type 0) (old new : TablesView) (node front : ℕ) → OnlyAt node old new → table_at new node ≡ cut_to front (table_at old node) → ((s : NodeTable) → P node s → P node (cut_to front s))
    → (i : ℕ) → 1 ≤ i → P i (table_of (lists_of old) i) → P i (table_of (lists_of new) i)
cut-keeps P old new node front only made keeps i low here =
    let was : P i (table_at old i) = subst (λ (s : NodeTable). P i s) (table_of-held old i) here in
    subst (λ (s : NodeTable). P i s) (sym (table_of-held new i))
    (⊎_elim
    (λ (at : i ≡ node).
    let there : P node (table_at old node) = subst (λ (j : ℕ). P j (table_at old j)) at was in
    subst (λ (j : ℕ). P j (table_at new j)) (sym at) (subst (λ (s : NodeTable). P node s) (sym made) (keeps (table_at old node) there)))
    (λ (off : i ≡ node → ⊥). subst (λ (s : NodeTable). P i s) (sym (only.others i low off)) was)
    (cases_eq i node))

abbrev pub CutIsKept : Type 0
CutIsKept = (net : Net) (dest i front : ℕ) (s : NodeTable) → IsKeptAt net dest i s → IsKeptAt net dest i (cut_to front s)

abbrev IsEmpty : ℕ → NodeTable → Type 0
IsEmpty i s = s.front ≤ s.base

abbrev KeptBut : Net → ℕ → ℕ → NodeTable → Type 0
KeptBut net dest i s = (i ≡ dest → ⊥) → IsKeptAt net dest i s

entries-cut : CutIsKept → (old new : TablesView) (net : Net) (node front : ℕ) → OnlyAt node old new → table_at new node ≡ cut_to front (table_at old node) → (d : Option ℕ) → EntriesKept net (lists_of old) d → EntriesKept net (lists_of new) d
entries-cut cut old new net node front only made None all =
    λ i inside. cut-keeps IsEmpty old new node front only made (λ s h. omega (arith, h)) i inside.0 (all i inside)
entries-cut cut old new net node front only made (Some dest) all =
    (all.0, λ i inside off. cut-keeps (KeptBut net dest) old new node front only made (λ s h apart. cut net dest node front s (h apart)) i inside.0 (all.1 i inside) off)

pub kept-cut : CutIsKept → (old new : TablesView) (net : Net) (node front : ℕ) → OnlyAt node old new → table_at new node ≡ cut_to front (table_at old node) → IsKept (lists_of old) net → IsKept (lists_of new) net
kept-cut cut old new net node front only made is = record {
  nodes = (only.nodes ∙ is.nodes.0, only.bases ∙ is.nodes.1);
  entries = subst (λ (d : Option ℕ). EntriesKept net (lists_of new) d) (sym only.dest) (entries-cut cut old new net node front only made old.dest is.entries);
}

-- the steps of an ask make a node ready
abbrev pub PreparedIsReady : Type 0
PreparedIsReady = (net : Net) (dest i : ℕ) (over : Bool) (s : NodeTable) → IsNet net → IsKeptAt net dest i s → IsReadyAt net dest i (prepared_table false over (least_to net dest i) s)

pub ready-rebase : PreparedIsReady → (old new : TablesView) (bases : List ℕ) (net : Net) (dest : ℕ) → IsNet net → IsKept (lists_of old) net → old.dest ≡ Some dest
    → ((i : ℕ) → HasNode old i → table_at new i ≡ rebased_table (get_or bases (i - 1) 0) (table_at old i)) → ((i : ℕ) → IsNode net i → get_or bases (i - 1) 0 ≡ least_to net dest i) → AreReady net dest (table_of (lists_of new))
ready-rebase prepared old new bases net dest valid is to each least = λ i inside off.
    let entries : IsNode net dest × AreKept net dest (table_of (lists_of old)) = subst (λ (d : Option ℕ). EntriesKept net (lists_of old) d) to is.entries in
    let kept : IsKeptAt net dest i (table_at old i) = subst (λ (s : NodeTable). IsKeptAt net dest i s) (table_of-held old i) (entries.1 i inside off) in
    let made : table_at new i ≡ rebased_table (least_to net dest i) (table_at old i) =
    each i (inside.0, omega (arith, inside.1, is.nodes.0)) ∙ ap (λ (base : ℕ). rebased_table base (table_at old i)) (least i inside) in
    subst (λ (s : NodeTable). IsReadyAt net dest i s) (sym (table_of-held new i ∙ made)) (prepared net dest i false (table_at old i) valid kept)
