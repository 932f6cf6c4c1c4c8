use Rattle.std.proofs.Common.{◌≡◌, ◌∷◌, ◌++◌, map, option_map}
use Rattle.sota_text.specs.Spans.{bytes_of, AreWithin}
use Rattle.sota_script.specs.Lines.{numbers_of}
use Rattle.sota_script.proofs.line.read_arcs.Given as goal

-- the arcs so far and those of the fields that are left are those of all fields
abbrev pub invariant-loop-field : goal.invariant-loop-field
invariant-loop-field l = record {
  arcs : numbers_of (map (bytes_of l.line) (l.fn.first ∷ l.fn.fields)) ≡ option_map (λ rest. l.arcs.items ++ rest) (numbers_of (map (bytes_of l.line) l.field-iterator));
  within : AreWithin l.line l.field-iterator;
}
