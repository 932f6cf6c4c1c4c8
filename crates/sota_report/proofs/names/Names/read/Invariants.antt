use Rattle.std.proofs.Common.{◌≡◌, map}
use Rattle.sota_text.specs.Spans.{bytes_of, AreWithin}
use Rattle.sota_text.specs.declared.span.Line.{Line}
use Rattle.sota_report.specs.Names.{places_of, places_after}
use Rattle.sota_report.proofs.names.Names.read.Given as goal

-- the places so far and the lines that are left make the places of the text
abbrev pub invariant-loop-line : goal.invariant-loop-line
invariant-loop-line l = record {
  places : places_after l.nodes l.names (map (λ (line : Line). (line.number, bytes_of l.bytes line.span)) l.line-iterator) ≡ places_of l.nodes l.bytes;
  within : AreWithin l.bytes (map (λ (line : Line). line.span) l.line-iterator);
}
