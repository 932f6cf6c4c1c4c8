use Rattle.std.proofs.Common.{◌≡◌, ◌∷◌, ◌++◌, map, option_map}
use Rattle.sota_text.specs.Spans.{bytes_of, AreWithin}
use Rattle.sota_script.specs.Lines.{pairs_of}
use Rattle.sota_script.proofs.line.read_pairs.Given as goal

-- the pairs so far and those of the fields that are left are those of all fields
abbrev pub invariant-loop-field : goal.invariant-loop-field
invariant-loop-field l = record {
  pairs : pairs_of (map (bytes_of l.line) (l.fn.first ∷ l.fn.fields)) ≡ option_map (λ rest. l.pairs.items ++ rest) (pairs_of (map (bytes_of l.line) l.field-iterator));
  within : AreWithin l.line l.field-iterator;
}
