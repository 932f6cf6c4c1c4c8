-- What a histogram text and a graph mean is a network.
use Rattle.std.proofs.Common.{◌≡◌, ℕ, ◌+◌, ◌<◌, ◌≤◌, ◌==◌, nat_le, Bool, true, false, cond, List, [], ◌∷◌, length, map, Some, None, Result, Ok, Err, refl, sym, ◌∙◌, ap, subst, arith}
use Rattle.std.specs.List.{All, enumerate_from}
use Rattle.std.proofs.lemmas.Bool.{eqb-false, leb-true}
use Rattle.std.proofs.lemmas.List.Elements.{All-nil, All-cons, All-head, All-tail}
use Rattle.std.proofs.lemmas.List.Sums.{sum_by-cons}
use Rattle.sota_units.specs.Memory.{◌>>=◌}
use Rattle.sota_hist.specs.Time.{IsTime, total}
use Rattle.sota_hist.specs.Build.{rising}
use Rattle.sota_hist.specs.Laws.{RisingIsTime, RisingSums}
use Rattle.sota_network.specs.Network.{Net, IsNode, IsArc, IsNet}
use Rattle.sota_network.specs.declared.network.Arc.{Arc}
use Rattle.sota_dimacs.specs.Graph.{IsGraph}
use Rattle.sota_dimacs.specs.declared.graph.RawArc.{RawArc}
use Rattle.sota_dimacs.specs.declared.graph.RawGraph.{RawGraph}
use Rattle.sota_histcsv.specs.declared.table.Table.{Table}
use Rattle.sota_histcsv.specs.declared.fault.HistFileFault.{HistFileFault}
use Rattle.sota_histcsv.specs.declared.fault.HistFileFault.TheVariants.{Header, Sum, ZeroTime}
use Rattle.sota_histcsv.specs.Records.{is_marked, without_mark, text_records}
use Rattle.sota_histcsv.specs.Histograms.{Contents, contents, arc_pairs, time_by, time_fault, timed_arc, histogram_fault, least_fault, numbered_arcs, timed, net_of, hist_net}
use Rattle.sota_histcsv.specs.Kept.{HoldsContents, Tabulates}
use Rattle.sota_histcsv.proofs.Keeping.{both_none, first_ok, AreContents, are_contents}
use Rattle.sota_histcsv.proofs.Moved.{arc_is_time}

-- ---- one arc

fits_none : (right : Bool) (fault : HistFileFault) → cond right None (Some fault) ≡ None → right ≡ true
fits_none true fault e = refl
fits_none false fault e = cc

weight_some : (none : Bool) (fault : HistFileFault) → cond none (Some fault) None ≡ None → none ≡ false
weight_some true fault e = cc
weight_some false fault e = refl

record Takes (scale : ℕ) (pairs : List (ℕ × ℕ)) : Type 0 where
  pub time : IsTime pairs
  pub few : total pairs ≤ scale

takes : RisingSums → (scale number weight : ℕ) (pairs : List (ℕ × ℕ)) → 1 ≤ scale → IsTime (rising pairs)
    → time_fault scale number weight pairs ≡ None → Takes scale (time_by scale weight pairs)
takes sums scale number weight [] some valid none =
    let apart : weight ≡ 0 → ⊥ = eqb-false weight 0 (weight_some (weight == 0) (ZeroTime number) none) in
    let tick : 0 < weight = omega arith in
    record {
      time = (tick, some, tt);
      few = omega (arith, sum_by-cons (λ (p : ℕ × ℕ). p.1) (weight, scale) []);
    }
takes sums scale number weight (p ∷ ps) some valid none =
    let fits : total (p ∷ ps) ≤ scale = leb-true (total (p ∷ ps)) scale (fits_none (nat_le (total (p ∷ ps)) scale) (Sum number) none) in
    record { time = valid; few = omega (arith, sums (λ (q : ℕ × ℕ). q.1) (p ∷ ps), fits) }

-- ---- each arc

all_arcs : RisingIsTime → RisingSums → (net : Net) (known : Contents) (number : ℕ) (raw : List RawArc)
    → known.scale ≡ net.scale → AreContents known
    → All (λ (arc : RawArc). IsNode net arc.tail) raw → All (λ (arc : RawArc). IsNode net arc.head) raw
    → least_fault known (enumerate_from number raw) ≡ None
    → All (IsArc net) (map (timed_arc known) (enumerate_from number raw))
all_arcs valid sums net known number [] scale are tails heads none = All-nil (IsArc net)
all_arcs valid sums net known number (arc ∷ raw) scale are tails heads none =
    let both = both_none (histogram_fault known (number, arc)) (least_fault known (enumerate_from (number + 1) raw)) none in
    let time = takes sums known.scale number arc.weight (arc_pairs known.entries number) are.scale
    (arc_is_time valid known.entries number are.kept) both.0 in
    let here : IsArc net (timed_arc known (number, arc)) = record {
      tail = All-head (λ (arc : RawArc). IsNode net arc.tail) arc raw tails;
      head = All-head (λ (arc : RawArc). IsNode net arc.head) arc raw heads;
      time = time.time;
      total = omega (arith, time.few, scale);
    } in
    All-cons (IsArc net) (timed_arc known (number, arc)) _ here
    (all_arcs valid sums net known (number + 1) raw scale are
    (All-tail (λ (arc : RawArc). IsNode net arc.tail) arc raw tails)
    (All-tail (λ (arc : RawArc). IsNode net arc.head) arc raw heads) both.1)

same_length : (known : Contents) (number : ℕ) (raw : List RawArc)
    → length (map (timed_arc known) (enumerate_from number raw)) ≡ length raw
same_length known number [] = refl
same_length known number (arc ∷ raw) = omega (arith, same_length known (number + 1) raw)

-- ---- all arcs

pub record AreArcs (graph : RawGraph) (known : Contents) (arcs : List Arc) : Type 0 where
  pub few : length arcs ≡ length graph.arcs
  pub valid : IsNet (record { nodes = graph.nodes; scale = known.scale; arcs = arcs })

pub are_arcs : RisingIsTime → RisingSums → (graph : RawGraph) (known : Contents) (arcs : List Arc)
    → IsGraph graph → AreContents known → timed known graph.arcs ≡ Ok arcs → AreArcs graph known arcs
are_arcs valid sums graph known arcs is are e =
    let ok = first_ok (least_fault known (numbered_arcs graph.arcs)) (map (timed_arc known) (numbered_arcs graph.arcs)) arcs e in
    let net : Net = record { nodes = graph.nodes; scale = known.scale; arcs = map (timed_arc known) (numbered_arcs graph.arcs) } in
    subst (AreArcs graph known) ok.1
    (record {
      few = same_length known 1 graph.arcs;
      valid = record { scale = are.scale; arcs = all_arcs valid sums net known 1 graph.arcs refl are is.tails is.heads ok.0 };
    })

-- ---- the whole text

-- what an accepted text is made of
pub record IsWhole (bytes : List ℕ) (graph : RawGraph) (net : Net) : Type 0 where
  pub plain : is_marked (without_mark bytes) ≡ false
  pub known : Contents
  pub is : contents (length graph.arcs) (text_records (without_mark bytes)) ≡ Ok known
  pub arcs : List Arc
  pub times : timed known graph.arcs ≡ Ok arcs
  pub net_is : record { nodes = graph.nodes; scale = known.scale; arcs = arcs } ≡ net

whole_timed : (bytes : List ℕ) (graph : RawGraph) (known : Contents) (net : Net)
    → is_marked (without_mark bytes) ≡ false
    → contents (length graph.arcs) (text_records (without_mark bytes)) ≡ Ok known
    → net_of graph known ≡ Ok net → IsWhole bytes graph net
whole_timed bytes graph known net plain is e =
    elim (timed known graph.arcs) as (λ o. timed known graph.arcs ≡ o → (o >>= λ arcs. Ok (record { nodes = graph.nodes; scale = known.scale; arcs = arcs })) ≡ Ok net → IsWhole bytes graph net) [
      | Err fault ↦ λ o e. cc
      | Ok arcs ↦ λ o e. record { plain = plain; known = known; is = is; arcs = arcs; times = o; net_is = cc }
    ] refl e

whole_known : (bytes : List ℕ) (graph : RawGraph) (net : Net) → is_marked (without_mark bytes) ≡ false
    → (contents (length graph.arcs) (text_records (without_mark bytes)) >>= net_of graph) ≡ Ok net
    → IsWhole bytes graph net
whole_known bytes graph net plain e =
    elim (contents (length graph.arcs) (text_records (without_mark bytes))) as (λ o. contents (length graph.arcs) (text_records (without_mark bytes)) ≡ o → (o >>= net_of graph) ≡ Ok net → IsWhole bytes graph net) [
      | Err fault ↦ λ o e. cc
      | Ok known ↦ λ o e. whole_timed bytes graph known net plain o e
    ] refl e

pub whole : (bytes : List ℕ) (graph : RawGraph) (net : Net) → hist_net bytes graph ≡ Ok net
    → IsWhole bytes graph net
whole bytes graph net e =
    elim (is_marked (without_mark bytes)) as (λ b. is_marked (without_mark bytes) ≡ b → cond b (Err Header) (contents (length graph.arcs) (text_records (without_mark bytes)) >>= net_of graph) ≡ Ok net → IsWhole bytes graph net) [
      | true ↦ λ b e. cc
      | false ↦ λ b e. whole_known bytes graph net b e
    ] refl e

pub text_is : RisingIsTime → RisingSums → (bytes : List ℕ) (graph : RawGraph) (net : Net) → IsGraph graph
    → hist_net bytes graph ≡ Ok net → IsNet net
text_is valid sums bytes graph net is e =
    let parts = whole bytes graph net e in
    let are = are_contents (length graph.arcs) (text_records (without_mark bytes)) parts.known parts.is in
    subst IsNet parts.net_is (are_arcs valid sums graph parts.known parts.arcs is are parts.times).valid

-- ---- a text that is read

pub record IsRead (bytes : List ℕ) (graph : RawGraph) (table : Table) : Type 0 where
  pub known : Contents
  pub is : contents (length graph.arcs) (text_records (without_mark bytes)) ≡ Ok known
  pub holds : HoldsContents table known
  pub are : AreContents known

read_from : (bytes : List ℕ) (graph : RawGraph) (table : Table) (answer : Result Contents HistFileFault)
    → contents (length graph.arcs) (text_records (without_mark bytes)) ≡ answer
    → Tabulates (Ok table) answer → IsRead bytes graph table
read_from bytes graph table (Ok known) is holds = record {
  known = known;
  is = is;
  holds = holds;
  are = are_contents (length graph.arcs) (text_records (without_mark bytes)) known is;
}
read_from bytes graph table (Err fault) is holds = absurd holds

pub is_read : (bytes text : List ℕ) (raw : List RawArc) (graph : RawGraph) (table : Table)
    → text ≡ without_mark bytes → raw ≡ graph.arcs
    → Tabulates (Ok table) (contents (length raw) (text_records text)) → IsRead bytes graph table
is_read bytes text raw graph table same arcs holds =
    read_from bytes graph table (contents (length raw) (text_records text))
    (rw (same, arcs) refl) holds

pub net_refused : (bytes text : List ℕ) (graph : RawGraph) (known : Contents) (why : HistFileFault)
    → text ≡ without_mark bytes → is_marked text ≡ false
    → contents (length graph.arcs) (text_records (without_mark bytes)) ≡ Ok known
    → timed known graph.arcs ≡ Err why → hist_net bytes graph ≡ Err why
net_refused bytes text graph known why same plain is e = rw (ap is_marked (sym same) ∙ plain, is, e) refl

pub net_read : (bytes text : List ℕ) (graph : RawGraph) (known : Contents) (arcs : List Arc)
    → text ≡ without_mark bytes → is_marked text ≡ false
    → contents (length graph.arcs) (text_records (without_mark bytes)) ≡ Ok known
    → timed known graph.arcs ≡ Ok arcs
    → hist_net bytes graph ≡ Ok (record { nodes = graph.nodes; scale = known.scale; arcs = arcs })
net_read bytes text graph known arcs same plain is e = rw (ap is_marked (sym same) ∙ plain, is, e) refl
