-- The network of a graph and a histogram text, or what is wrong with the text.
use Rattle.std.specs.Prelude.{ℕ, List, [], ◌∷◌, ◌==◌, nat_le, length, map, filter, Option, Some}
use Rattle.std.specs.Prelude.{None, Result, Ok, Err, if◌then◌else◌}
use Rattle.std.specs.List.{enumerate_from}
use Rattle.std.specs.Option.{option_or}
use Rattle.sota_units.specs.Memory.{◌>>=◌}
use Rattle.sota_hist.specs.Time.{total}
use Rattle.sota_hist.specs.Build.{rising}
use Rattle.sota_network.specs.Network.{Net}
use Rattle.sota_network.specs.declared.network.Arc.{Arc}
use Rattle.sota_dimacs.specs.declared.graph.RawGraph.{RawGraph}
use Rattle.sota_dimacs.specs.declared.graph.RawArc.{RawArc}
use Rattle.sota_histcsv.specs.Records.{is_marked, without_mark, text_records}
use Rattle.sota_histcsv.specs.Records.{NumberedRecord, numbered_rows}
use Rattle.sota_histcsv.specs.Records.{header_scale, entries_in, first_record_fault}
use Rattle.sota_histcsv.specs.declared.entry.Entry.{Entry}
use Rattle.sota_histcsv.specs.declared.fault.HistFileFault.{HistFileFault}
use Rattle.sota_histcsv.specs.declared.fault.HistFileFault.TheVariants.{Header, Sum, ZeroTime}

-- a fault, if there is one, comes before the answer
abbrev pub fault_first : {T : Type 0} → Option HistFileFault → Result T HistFileFault
    → Result T HistFileFault
fault_first (Some fault) answer = Err fault
fault_first None answer = answer

-- ---- the records

-- what a histogram text holds: its scale, and what its records say that are not dropped, in their
-- order
pub record Contents : Type 0 where
  pub scale : ℕ
  pub entries : List Entry

-- the contents of records after a header that has this scale, in a graph of so many arcs
abbrev pub contents_after : ℕ → Option ℕ → List NumberedRecord → Result Contents HistFileFault
contents_after arcs None rows = Err Header
contents_after arcs (Some scale) rows =
    fault_first (first_record_fault arcs [] rows)
    (Ok (record { scale = scale; entries = entries_in rows }))

-- the contents of records, or the fault of the first that is wrong
abbrev pub contents : ℕ → List (List (List ℕ)) → Result Contents HistFileFault
contents arcs [] = Err Header
contents arcs (header ∷ rows) = contents_after arcs (header_scale header) (numbered_rows rows)

-- ---- the arcs

-- the ticks and masses of entries, in their order
abbrev pub tick_pairs : List Entry → List (ℕ × ℕ)
tick_pairs entries = map (λ entry. (entry.tick, entry.mass)) entries

-- those that records give to an arc
abbrev pub arc_pairs : List Entry → ℕ → List (ℕ × ℕ)
arc_pairs entries arc = tick_pairs (filter (λ entry. entry.arc == arc) entries)

-- the time of an arc that has these pairs: in rising ticks, or all mass at the arc's weight where
-- there is none
abbrev pub time_by : ℕ → ℕ → List (ℕ × ℕ) → List (ℕ × ℕ)
time_by scale weight [] = (weight, scale) ∷ []
time_by scale weight (pair ∷ pairs) = rising (pair ∷ pairs)

-- the masses of an arc sum to at most the scale, and a road takes time
abbrev pub time_fault : ℕ → ℕ → ℕ → List (ℕ × ℕ) → Option HistFileFault
time_fault scale number weight [] = if weight == 0 then Some (ZeroTime number) else None
time_fault scale number weight (pair ∷ pairs) =
    if nat_le (total (pair ∷ pairs)) scale then None else Some (Sum number)

-- an arc of the graph, which has a number, with its time
abbrev pub timed_arc : Contents → ℕ × RawArc → Arc
timed_arc known arc = record {
  tail = arc.1.tail;
  head = arc.1.head;
  time = time_by known.scale arc.1.weight (arc_pairs known.entries arc.0);
}

abbrev pub histogram_fault : Contents → ℕ × RawArc → Option HistFileFault
histogram_fault known arc =
    time_fault known.scale arc.0 arc.1.weight (arc_pairs known.entries arc.0)

-- the fault of the least arc that has one
abbrev pub least_fault : Contents → List (ℕ × RawArc) → Option HistFileFault
least_fault known [] = None
least_fault known (arc ∷ arcs) = option_or (histogram_fault known arc) (least_fault known arcs)

-- arcs are counted from 1
abbrev pub numbered_arcs : List RawArc → List (ℕ × RawArc)
numbered_arcs arcs = enumerate_from 1 arcs

-- the arcs with their times, or the fault of the least that has one
abbrev pub timed : Contents → List RawArc → Result (List Arc) HistFileFault
timed known arcs =
    fault_first (least_fault known (numbered_arcs arcs))
    (Ok (map (timed_arc known) (numbered_arcs arcs)))

-- ---- the whole text

-- a graph whose arcs take the times of these contents
abbrev pub net_of : RawGraph → Contents → Result Net HistFileFault
net_of graph known = do
  arcs ← timed known graph.arcs
  Ok (record { nodes = graph.nodes; scale = known.scale; arcs = arcs })

-- the network that the bytes of a histogram text and a graph mean, or the first fault: that of a
-- record comes before those of arcs. A second byte order mark is no header: it is looked for here,
-- since `csv` would drop it
abbrev pub hist_net : List ℕ → RawGraph → Result Net HistFileFault
hist_net bytes graph =
    if is_marked (without_mark bytes) then Err Header
    else contents (length graph.arcs) (text_records (without_mark bytes)) >>= net_of graph
