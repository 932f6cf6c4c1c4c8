-- Tables stay right over asks and edits.
use Rattle.std.proofs.Common.{ℕ, zero, suc, ◌≡◌, ◌≢◌, ◌≤◌, Bool, true, false, not, nat_lt, List, length, min, max, ◌-◌, Option, None, Some, refl, sym, ◌∙◌, ap, arith, subst}
use Rattle.std.proofs.lemmas.Bool.{eqb-true, true≢false}
use Rattle.sota_network.specs.Network.{Net, IsNode, replaced, arc_at}
use Rattle.std.specs.List.{sum}
use Rattle.sota_network.specs.Region.{need}
use Rattle.sota_network.specs.Numbers.{listed}
use Rattle.sota_network.specs.declared.network.Arc.{Arc}
use Rattle.sota_kept.specs.Ticks.{least_to}
use Rattle.sota_kept.specs.Edits.{first_affected, IsEdit}
use Rattle.sota_kept.specs.NodeTables.{NodeTable, IsKeptAt, AreReady, AreKept, IsReadyAt, cut_to, prepared_table}
use Rattle.sota_kept.specs.States.{KEPT_LIMIT, started_state, based_state, cells_kept, is_dest, after_edit, prepared_state, front_of}
use Rattle.sota_kept.specs.TableLists.{TableLists, table_of, state_of, IsKept, EntriesKept, IsSettled, EntriesSettled, AreTables}
use Rattle.sota_kept.proofs.Standing.{kept-cut}
use Rattle.sota_kept.proofs.Preparing.{MayKeep, ready-prepared}
use Rattle.sota_kept.specs.Asks.{IsPrepared}
use Rattle.sota_kept.proofs.Stating.{state-listed, prepared-state, cells-based}
use Rattle.sota_network.specs.Laws.{ListLaws}
use Rattle.sota_kept.specs.Laws.{Lawful}
use Rattle.sota_kept.proofs.Networks.{NetworkLaws, replaced-at}

-- an edit leaves the numbers of nodes
pub replaced-nodes : (net : Net) (number : ℕ) (a : Arc) (s0 : ℕ) (time : List (ℕ × ℕ)) → IsEdit net number a s0 time → (replaced net number time).nodes ≡ net.nodes
replaced-nodes net zero a s0 time is = absurd (let none : arc_at net zero ≡ Some a = is.found in cc)
replaced-nodes net (suc k) a s0 time is = ap (λ (x : Net). x.nodes) (replaced-at net k a time is.found)

-- after an edit that cuts each node to its first affected budget
pub kept-edited : NetworkLaws → (net : Net) (number : ℕ) (a : Arc) (s0 : ℕ) (time : List (ℕ × ℕ)) → IsEdit net number a s0 time → (old new : TableLists) (dest : ℕ) → IsKept old net → old.dest ≡ Some dest → new.dest ≡ Some dest
    → (length new.fronts ≡ net.nodes) × (length new.bases ≡ net.nodes) → ((i : ℕ) → IsNode net i → table_of new i ≡ cut_to (first_affected net dest a s0 i) (table_of old i)) → IsKept new (replaced net number time)
kept-edited laws net number a s0 time edit old new dest is at at' long cut =
    let nodes : (replaced net number time).nodes ≡ net.nodes = replaced-nodes net number a s0 time edit in
    let kept : IsNode net dest × AreKept net dest (table_of old) = subst (λ (d : Option ℕ). EntriesKept net old d) at is.entries in
    let there : EntriesKept (replaced net number time) new (Some dest) = (
      (kept.0.0, rw nodes kept.0.1),
      λ i node off.
          let node' : IsNode net i = (node.0, rw (← nodes) node.1) in
          subst (λ (s : NodeTable). IsKeptAt (replaced net number time) dest i s) (sym (cut i node'))
          (kept-cut laws net dest number a s0 time edit i (first_affected net dest a s0 i) (table_of old i) (let z : first_affected net dest a s0 i ≤ first_affected net dest a s0 i = omega arith in z) (kept.1 i node' off)),
    ) in
    record {
      nodes = (long.0 ∙ sym nodes, long.1 ∙ sym nodes);
      entries = subst (λ (d : Option ℕ). EntriesKept (replaced net number time) new d) (sym at') there;
    }

-- its state
pub state-edited : ListLaws → (net : Net) (a : Arc) (s0 : ℕ) (old new : TableLists) (dest : ℕ) → old.dest ≡ Some dest → new.dest ≡ Some dest → new.bases ≡ old.bases → length new.fronts ≡ net.nodes
    → ((i : ℕ) → IsNode net i → (table_of new i).front ≡ min (table_of old i).front (first_affected net dest a s0 i)) → state_of new ≡ after_edit net a s0 (state_of old)
state-edited laws net a s0 old new dest at at' bases long each =
    let fronts : new.fronts ≡ listed (λ i. min (front_of (state_of old) i) (first_affected net dest a s0 i)) net.nodes =
    laws.items new.fronts (λ i. min (front_of (state_of old) i) (first_affected net dest a s0 i)) net.nodes long (λ i low high. each i (low, high)) in
    rw (at, at', bases, fronts) refl

-- ---- an ask
same-dest : (d : Option ℕ) (dest : ℕ) → is_dest d dest ≡ true → d ≡ Some dest
same-dest None dest h = absurd (true≢false (sym h))
same-dest (Some d) dest h = ap (λ (x : ℕ). Some x) (eqb-true d dest h)

may-keep : (net : Net) (old : TableLists) (dest : ℕ) → IsKept old net → AreTables old net.nodes → (fresh : Bool) → is_dest old.dest dest ≡ not fresh → (i : ℕ) → IsNode net i → i ≢ dest → MayKeep net dest i fresh (table_of old i)
may-keep net old dest is held true same i node off = (held.tables i node.0 node.1).base
may-keep net old dest is held false same i node off =
    let kept : IsNode net dest × AreKept net dest (table_of old) = subst (λ (d : Option ℕ). EntriesKept net old d) (same-dest old.dest dest same) is.entries in
    kept.1 i node off

pub ready-held : (net : Net) → Lawful net → (old new : TableLists) (dest : ℕ) (over : Bool) → IsKept old net → AreTables old net.nodes → (fresh : Bool) → is_dest old.dest dest ≡ not fresh
    → ((i : ℕ) → IsNode net i → table_of new i ≡ prepared_table fresh over (least_to net dest i) (table_of old i)) → AreReady net dest (table_of new)
ready-held net valid old new dest over is held fresh same each i node off =
    subst (λ (s : NodeTable). IsReadyAt net dest i s) (sym (each i node))
    (ready-prepared net valid dest i fresh over (table_of old i) (may-keep net old dest is held fresh same i node off))

-- what is ready is kept
pub kept-ready : (net : Net) (held : TableLists) (dest : ℕ) → IsNode net dest → held.dest ≡ Some dest → AreTables held net.nodes → AreReady net dest (table_of held) → IsKept held net
kept-ready net held dest node at is ready =
    let there : EntriesKept net held (Some dest) = (node, λ i node' off. (ready i node' off).settled.kept) in
    record { nodes = (is.fronts, is.bases); entries = subst (λ (d : Option ℕ). EntriesKept net held d) (sym at) there }

-- what is ready is settled
pub settled-ready : (net : Net) (held : TableLists) (dest : ℕ) → IsNode net dest → held.dest ≡ Some dest → AreTables held net.nodes → AreReady net dest (table_of held) → IsSettled held net
settled-ready net held dest node at is ready =
    let there : EntriesSettled net held (Some dest) = λ i node' off. (ready i node' off).settled in
    record { kept = kept-ready net held dest node at is ready; settled = subst (λ (d : Option ℕ). EntriesSettled net held d) (sym at) there }

not-not : (b : Bool) → b ≡ not (not b)
not-not true = refl
not-not false = refl

pub ready-tables : (net : Net) → Lawful net → (origin dest last : ℕ) (old new : TableLists) → IsKept old net → AreTables old net.nodes → IsPrepared net origin dest last old new → AreReady net dest (table_of new)
ready-tables net valid origin dest last old new is held made =
    ready-held net valid old new dest (nat_lt KEPT_LIMIT (cells_kept net origin dest last (based_state net dest (started_state net dest (state_of old))))) is held (not (is_dest old.dest dest)) (not-not (is_dest old.dest dest)) made.tables

pub state-prepared : ListLaws → (net : Net) (origin dest last : ℕ) (old new : TableLists) → AreTables old net.nodes → IsPrepared net origin dest last old new → state_of new ≡ prepared_state net origin dest last (state_of old)
state-prepared laws net origin dest last old new held made =
    let over : Bool = nat_lt KEPT_LIMIT (cells_kept net origin dest last (based_state net dest (started_state net dest (state_of old)))) in
    let fresh : Bool = not (is_dest old.dest dest) in
    let step : ℕ → NodeTable = λ i. prepared_table fresh over (least_to net dest i) (table_of old i) in
    let there = prepared-state laws net origin dest last (state_of old) (held.fronts, held.bases) (table_of old) (λ i. refl) (λ i. refl) fresh over (not-not (is_dest old.dest dest)) refl in
    let one : state_of new ≡ record { dest = Some dest; fronts = listed (λ i. (step i).front) net.nodes; bases = listed (λ i. (step i).base) net.nodes } =
    state-listed laws (state_of new) net.nodes (Some dest) (λ i. (step i).front) (λ i. (step i).base)
    (record {
      dest = made.to;
      long = made.nodes;
      front = λ i low high. ap (λ (s : NodeTable). s.front) (made.tables i (low, high));
      base = λ i low high. ap (λ (s : NodeTable). s.base) (made.tables i (low, high));
    }) in
    let two = state-listed laws (prepared_state net origin dest last (state_of old)) net.nodes (Some dest) (λ i. (step i).front) (λ i. (step i).base) there in
    one ∙ sym two

-- what would be kept, by the tables after the second step of an ask
pub cells-held : ListLaws → (net : Net) (origin dest last : ℕ) (old mid : TableLists) → AreTables old net.nodes
    → ((i : ℕ) → IsNode net i → table_of mid i ≡ prepared_table (not (is_dest old.dest dest)) false (least_to net dest i) (table_of old i))
    → cells_kept net origin dest last (based_state net dest (started_state net dest (state_of old))) ≡ sum (listed (λ i. max (table_of mid i).front (need net origin dest last i) - (table_of mid i).base) net.nodes)
cells-held laws net origin dest last old mid held each =
    cells-based laws net origin dest last (state_of old) (held.fronts, held.bases) (table_of old) (λ i. refl) (λ i. refl) (not (is_dest old.dest dest)) (not-not (is_dest old.dest dest)) (table_of mid) (λ i low high. each i (low, high))
