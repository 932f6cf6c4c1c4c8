use Rattle.std.proofs.Common.{◌≡◌, map}
use Rattle.sota_text.specs.Spans.{AreWithin}
use Rattle.sota_text.specs.declared.span.Line.{Line}
use Rattle.sota_dimacs.specs.Graph.{graph_text}
use Rattle.sota_dimacs.proofs.Reading.{entry_of, rest_of}
use Rattle.sota_dimacs.proofs.reader.read_graph.Given as goal

-- what was seen and the lines that are left make the graph of the text
abbrev pub invariant-loop-line : goal.invariant-loop-line
invariant-loop-line l = record {
  text : rest_of l.seen.problem l.seen.arcs.items (map (entry_of l.bytes) l.line-iterator) ≡ graph_text l.bytes;
  within : AreWithin l.bytes (map (λ (line : Line). line.span) l.line-iterator);
}
