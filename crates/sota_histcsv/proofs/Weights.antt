-- The network of a graph whose arcs take their weights.
use Rattle.std.proofs.Common.{◌≡◌, ℕ, suc, ◌<◌, ◌≤◌, ◌==◌, Bool, true, false, cond, List, [], ◌∷◌, length, map, Option, Some, None, Ok, Err, refl, subst, arith}
use Rattle.std.specs.List.{All}
use Rattle.std.proofs.lemmas.Bool.{eqb-false}
use Rattle.std.proofs.lemmas.List.{length-map}
use Rattle.std.proofs.lemmas.List.Elements.{All-nil, All-cons, All-head, All-tail}
use Rattle.sota_units.specs.Memory.{◌>>=◌}
use Rattle.sota_network.specs.Network.{Net, IsNode, IsArc, IsNet}
use Rattle.sota_network.specs.Numbers.{first_number}
use Rattle.sota_network.specs.declared.network.Arc.{Arc}
use Rattle.sota_dimacs.specs.Graph.{IsGraph}
use Rattle.sota_dimacs.specs.declared.graph.RawArc.{RawArc}
use Rattle.sota_dimacs.specs.declared.graph.RawGraph.{RawGraph}
use Rattle.sota_histcsv.specs.Certain.{certain_arc, zero_time, certain_by, certain_arcs, certain_net}

none_here : (here : Bool) (n : ℕ) (rest : Option ℕ) → cond here (Some n) rest ≡ None → (here ≡ false) × (rest ≡ None)
none_here true n rest e = cc
none_here false n rest e = (refl, e)

all_arcs : (net : Net) (n : ℕ) (raw : List RawArc) → net.scale ≡ 1
    → All (λ (arc : RawArc). IsNode net arc.tail) raw → All (λ (arc : RawArc). IsNode net arc.head) raw
    → first_number (λ (arc : RawArc). arc.weight == 0) n raw ≡ None
    → All (IsArc net) (map certain_arc raw)
all_arcs net n [] one tails heads none = All-nil (IsArc net)
all_arcs net n (arc ∷ raw) one tails heads none =
    let both = none_here (arc.weight == 0) n (first_number (λ (arc : RawArc). arc.weight == 0) (suc n) raw) none in
    let apart : arc.weight ≡ 0 → ⊥ = eqb-false arc.weight 0 both.0 in
    let tick : 0 < arc.weight = omega arith in
    let mass : 1 ≤ 1 = omega arith in
    let here : IsArc net (certain_arc arc) = record {
      tail = All-head (λ (arc : RawArc). IsNode net arc.tail) arc raw tails;
      head = All-head (λ (arc : RawArc). IsNode net arc.head) arc raw heads;
      time = (tick, mass, tt);
      total = omega (arith, one);
    } in
    All-cons (IsArc net) (certain_arc arc) (map certain_arc raw) here
    (all_arcs net (suc n) raw one
    (All-tail (λ (arc : RawArc). IsNode net arc.tail) arc raw tails)
    (All-tail (λ (arc : RawArc). IsNode net arc.head) arc raw heads) both.1)

pub record AreWeights (graph : RawGraph) (arcs : List Arc) : Type 0 where
  pub few : length arcs ≡ length graph.arcs
  pub valid : IsNet (record { nodes = graph.nodes; scale = 1; arcs = arcs })

by_is : (graph : RawGraph) (first : Option ℕ) (arcs : List Arc) → IsGraph graph
    → zero_time graph.arcs ≡ first → certain_by first graph.arcs ≡ Ok arcs → AreWeights graph arcs
by_is graph (Some arc) arcs is first e = cc
by_is graph None arcs is first e =
    let net : Net = record { nodes = graph.nodes; scale = 1; arcs = map certain_arc graph.arcs } in
    let same : map certain_arc graph.arcs ≡ arcs = cc in
    subst (AreWeights graph) same
    (record {
      few = omega (arith, length-map graph.arcs (λ (arc : RawArc). certain_arc arc));
      valid = record { scale = (let h : 1 ≤ 1 = omega arith in h); arcs = all_arcs net 1 graph.arcs refl is.tails is.heads first };
    })

pub weights_are : (graph : RawGraph) (arcs : List Arc) → IsGraph graph
    → certain_arcs graph.arcs ≡ Ok arcs → AreWeights graph arcs
weights_are graph arcs is e = by_is graph (zero_time graph.arcs) arcs is refl e

pub net_is : (graph : RawGraph) (net : Net) → IsGraph graph → certain_net graph ≡ Ok net → IsNet net
net_is graph net is e =
    elim (certain_arcs graph.arcs) as (λ o. certain_arcs graph.arcs ≡ o → (o >>= λ arcs. Ok (record { nodes = graph.nodes; scale = 1; arcs = arcs })) ≡ Ok net → IsNet net) [
      | Err fault ↦ λ o e. cc
      | Ok arcs ↦ λ o e.
          let same : record { nodes = graph.nodes; scale = 1; arcs = arcs } ≡ net = cc in
          subst IsNet same (weights_are graph arcs is o).valid
    ] refl e
