use Rattle.std.proofs.Common.{ℕ, ◌≡◌, ◌≤◌, ◌-◌, ◌==◌, List, [], length, get_or, sym, ◌∙◌, ap, subst, arith}
use Rattle.std.specs.List.{All}
use Rattle.sota_network.specs.Network.{Net}
use Rattle.sota_network.specs.Numbers.{numbers}
use Rattle.sota_network.specs.Adjacency.{end_of, ends_of, grouped}
use Rattle.sota_network.specs.declared.adjacency.End.{End}
use Rattle.sota_network.specs.declared.adjacency.End.TheVariants.{Tail, Head}
use Rattle.sota_network.specs.declared.network.Arc.{Arc}
use Rattle.sota_network.proofs.Grouped.{length-grouped, grouped-at, numbers-map}
use Rattle.sota_network.proofs.Numbered.{numbers-within}
use Rattle.sota_network.proofs.network.Network.arcs_with.Goals as goal

-- there is a list for each node
lists-long : (net stored : Net) (end : End) (lists : List (List ℕ)) → stored ≡ net → lists ≡ grouped stored.nodes (ends_of end stored.arcs) → length lists ≡ net.nodes
lists-long net stored end lists same are =
    ap length are ∙ length-grouped stored.nodes (ends_of end stored.arcs) ∙ ap (λ (n : Net). n.nodes) same

-- the list of a node has the numbers of its arcs
list-is : (net stored : Net) (end at : End) (lists : List (List ℕ)) (node : ℕ) → stored ≡ net → at ≡ end → lists ≡ grouped stored.nodes (ends_of end stored.arcs) → 1 ≤ node → node ≤ net.nodes
    → get_or lists (node - 1) [] ≡ numbers (λ (arc : Arc). end_of at arc == node) 1 net.arcs
list-is net stored end at lists node same is are low high =
    let within : node ≤ stored.nodes = omega (arith, ap (λ (n : Net). n.nodes) same) in
    ap (λ (xs : List (List ℕ)). get_or xs (node - 1) []) are
    ∙ grouped-at stored.nodes (ends_of end stored.arcs) node [] low within
    ∙ numbers-map (end_of end) (λ e. e == node) 1 stored.arcs
    ∙ ap (λ (n : Net). numbers (λ (arc : Arc). end_of end arc == node) 1 n.arcs) same
    ∙ ap (λ (e : End). numbers (λ (arc : Arc). end_of e arc == node) 1 net.arcs) (sym is)

within : (net : Net) (at : End) (node : ℕ) (found : List ℕ) → found ≡ numbers (λ (arc : Arc). end_of at arc == node) 1 net.arcs → All (λ (e : ℕ). (1 ≤ e) × (e ≤ length net.arcs)) found
within net at node found is =
    subst (λ (es : List ℕ). All (λ (e : ℕ). (1 ≤ e) × (e ≤ length net.arcs)) es) (sym is) (numbers-within net (λ (arc : Arc). end_of at arc == node))

pub of_node-requires : goal.of_node-requires
of_node-requires c =
    let long = lists-long c.args.self.now (record { nodes = c.self.inside.nodes; scale = c.self.inside.scale; arcs = c.self.inside.arcs.items }) Tail c.self.inside.leaving c.self.view_is c.self.invariant.tails in
    (omega arith, omega (arith, long))

pub of_node-requires-in-Head : goal.of_node-requires-in-Head
of_node-requires-in-Head c =
    let long = lists-long c.args.self.now (record { nodes = c.self.inside.nodes; scale = c.self.inside.scale; arcs = c.self.inside.arcs.items }) Head c.self.inside.entering c.self.view_is c.self.invariant.heads in
    (omega arith, omega (arith, long))

pub returns-in-Tail-clause-value : goal.returns-in-Tail-clause-value
returns-in-Tail-clause-value c =
    c.of_node.ensures
    ∙ list-is c.args.self.now (record { nodes = c.self.inside.nodes; scale = c.self.inside.scale; arcs = c.self.inside.arcs.items }) Tail c.args.end c.self.inside.leaving c.args.node c.self.view_is c.in-Tail.is c.self.invariant.tails (omega arith) (omega arith)

pub returns-in-Tail-clause-within : goal.returns-in-Tail-clause-within
returns-in-Tail-clause-within c = within c.args.self.now c.args.end c.args.node c.of_node.result.now (returns-in-Tail-clause-value c)

pub returns-in-Head-clause-value : goal.returns-in-Head-clause-value
returns-in-Head-clause-value c =
    c.of_node-in-Head.ensures
    ∙ list-is c.args.self.now (record { nodes = c.self.inside.nodes; scale = c.self.inside.scale; arcs = c.self.inside.arcs.items }) Head c.args.end c.self.inside.entering c.args.node c.self.view_is c.in-Head.is c.self.invariant.heads (omega arith) (omega arith)

pub returns-in-Head-clause-within : goal.returns-in-Head-clause-within
returns-in-Head-clause-within c = within c.args.self.now c.args.end c.args.node c.of_node-in-Head.result.now (returns-in-Head-clause-value c)
