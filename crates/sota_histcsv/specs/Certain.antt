-- The network of a graph without histograms.
use Rattle.std.specs.Prelude.{ℕ, ◌==◌, List, [], ◌∷◌, map, Option, Some, None, Result, Ok, Err}
use Rattle.sota_units.specs.Memory.{◌>>=◌}
use Rattle.sota_dimacs.specs.declared.graph.RawGraph.{RawGraph}
use Rattle.sota_dimacs.specs.declared.graph.RawArc.{RawArc}
use Rattle.sota_network.specs.Network.{Net}
use Rattle.sota_network.specs.Numbers.{first_number}
use Rattle.sota_network.specs.declared.network.Arc.{Arc}
use Rattle.sota_histcsv.specs.declared.fault.HistFileFault.{HistFileFault}
use Rattle.sota_histcsv.specs.declared.fault.HistFileFault.TheVariants.{ZeroTime}

-- an arc that takes its weight for certain: all mass, which is 1, stands there
abbrev pub certain_arc : RawArc → Arc
certain_arc arc = record { tail = arc.tail; head = arc.head; time = (arc.weight, 1) ∷ [] }

-- the number of the first arc that would take no time
abbrev pub zero_time : List RawArc → Option ℕ
zero_time arcs = first_number (λ arc. arc.weight == 0) 1 arcs

-- arcs that take their weights, or the first that would take no time
abbrev pub certain_by : Option ℕ → List RawArc → Result (List Arc) HistFileFault
certain_by None raw = Ok (map certain_arc raw)
certain_by (Some arc) raw = Err (ZeroTime arc)

abbrev pub certain_arcs : List RawArc → Result (List Arc) HistFileFault
certain_arcs raw = certain_by (zero_time raw) raw

-- the network in which each arc takes its weight, or the first arc of weight 0
abbrev pub certain_net : RawGraph → Result Net HistFileFault
certain_net graph = do
  arcs ← certain_arcs graph.arcs
  Ok (record { nodes = graph.nodes; scale = 1; arcs = arcs })
