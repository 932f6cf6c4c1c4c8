-- Which histogram texts are accepted and what they mean, without faults and their order.
use Rattle.std.specs.Prelude.{ℕ, ◌≡◌, ◌≤◌, List, ◌∷◌, false, length, map, Some}
use Rattle.std.specs.List.{All, count_by}
use Rattle.sota_network.specs.Network.{Net, IsNet}
use Rattle.sota_dimacs.specs.declared.graph.RawGraph.{RawGraph}
use Rattle.sota_histcsv.specs.declared.entry.Entry.{Entry}
use Rattle.sota_histcsv.specs.Records.{is_marked, without_mark, text_records}
use Rattle.sota_histcsv.specs.Records.{NumberedRecord, numbered_rows}
use Rattle.sota_histcsv.specs.Records.{header_scale, row_entry, entries_in}
use Rattle.sota_histcsv.specs.Histograms.{timed_arc, numbered_arcs}
use Rattle.sota_histcsv.specs.Kept.{is_at}

-- a record is three numbers, a mass at a tick of an arc, in a graph of so many arcs. A road takes
-- time: a positive mass stands at a positive tick
pub record Gives (arcs : ℕ) (row : NumberedRecord) : Type 0 where
  pub entry : Entry
  pub numbers : row_entry row ≡ Some entry
  pub arc : (1 ≤ entry.arc) × (entry.arc ≤ arcs)
  pub tick : 1 ≤ entry.mass → 1 ≤ entry.tick

-- at most one byte order mark; a header with the scale of the network; records that each give a
-- mass, no two of them a positive one to the same tick of the same arc. The network has the nodes
-- and arcs of the graph, each arc the time that the records give it, or else its weight
pub record IsHistTextOf (bytes : List ℕ) (graph : RawGraph) (net : Net) : Type 0 where
  pub plain : is_marked (without_mark bytes) ≡ false
  pub header : List (List ℕ)
  pub rows : List (List (List ℕ))
  pub records : text_records (without_mark bytes) ≡ header ∷ rows
  pub scale : header_scale header ≡ Some net.scale
  pub each : All (Gives (length graph.arcs)) (numbered_rows rows)
  pub once : (arc tick : ℕ) → count_by (is_at arc tick) (entries_in (numbered_rows rows)) ≤ 1
  pub nodes : net.nodes ≡ graph.nodes
  pub arcs : net.arcs
      ≡ map (timed_arc (record { scale = net.scale; entries = entries_in (numbered_rows rows) }))
      (numbered_arcs graph.arcs)
  pub valid : IsNet net
