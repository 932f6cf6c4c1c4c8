use Rattle.std.proofs.Common.{ℕ, ◌≡◌, ◌≤◌, List}
use Rattle.std.specs.List.{All}
use Rattle.std.proofs.lemmas.List.Elements.{All-map, All-weaker}
use Rattle.sota_network.specs.Network.{Net, IsArc}
use Rattle.sota_network.specs.Adjacency.{end_of, ends_of}
use Rattle.sota_network.specs.declared.adjacency.End.{End}
use Rattle.sota_network.specs.declared.adjacency.End.TheVariants.{Tail, Head}
use Rattle.sota_network.specs.declared.network.Arc.{Arc}
use Rattle.sota_network.proofs.network.Network.build.Goals as goal

-- both ends of an arc are nodes
end-node : (net : Net) (end : End) (a : Arc) → IsArc net a → (1 ≤ end_of end a) × (end_of end a ≤ net.nodes)
end-node net Tail a is = is.tail
end-node net Head a is = is.head

ends-are : (net : Net) (end : End) (arcs : List Arc) → All (IsArc net) net.arcs → arcs ≡ net.arcs
    → All (λ (node : ℕ). (1 ≤ node) × (node ≤ net.nodes)) (ends_of end arcs)
ends-are net end arcs all same =
    rw same
    (All-map (λ (node : ℕ). (1 ≤ node) × (node ≤ net.nodes)) (end_of end) net.arcs
    (All-weaker (IsArc net) (λ (a : Arc). (1 ≤ end_of end a) × (end_of end a ≤ net.nodes)) (end-node net end) net.arcs all))

pub build-requires-clause-ends : goal.build-requires-clause-ends
build-requires-clause-ends c =
    ends-are (record { nodes = c.args.nodes; scale = c.args.scale; arcs = c.args.arcs.items }) Tail c.deref.result.now c.requires.valid.arcs c.deref.ensures.value

pub build-requires-2-clause-ends : goal.build-requires-2-clause-ends
build-requires-2-clause-ends c =
    ends-are (record { nodes = c.args.nodes; scale = c.args.scale; arcs = c.args.arcs.items }) Head c.deref-2.result.now c.requires.valid.arcs c.deref-2.ensures.value
