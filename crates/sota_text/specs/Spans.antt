-- Where lines and fields stand: the same lists by places, for readers that copy nothing.
use Rattle.std.specs.Prelude.{ℕ, ◌+◌, ◌≤◌, List, [], ◌∷◌}
use Rattle.std.specs.Prelude.{length, filter, nat_lt, slice_range}
use Rattle.std.specs.List.{slice_split}
use Rattle.sota_text.specs.Text.{is_blank, line_pieces, without_cr}
use Rattle.sota_text.specs.declared.span.Span.{Span}
use Rattle.sota_text.specs.declared.span.Line.{Line}

-- the bytes of a span
abbrev pub bytes_of : List ℕ → Span → List ℕ
bytes_of bytes span = slice_range bytes span.from span.to

abbrev pub IsWithin : List ℕ → Span → Type 0
IsWithin bytes span = (span.from ≤ span.to) × (span.to ≤ length bytes)

abbrev pub AreWithin : List ℕ → List Span → Type 0
AreWithin bytes [] = Unit {0}
AreWithin bytes (span ∷ spans) = IsWithin bytes span × AreWithin bytes spans

-- each span begins where or after the one before it ends, the first one at or after a place
abbrev pub AreInOrderFrom : ℕ → List Span → Type 0
AreInOrderFrom at [] = Unit {0}
AreInOrderFrom at (span ∷ spans) = (at ≤ span.from) × AreInOrderFrom span.to spans

abbrev pub AreInOrder : List Span → Type 0
AreInOrder spans = AreInOrderFrom 0 spans

-- pieces one after the other, with a separator between two
abbrev pub placed : ℕ → List (List ℕ) → List Span
placed from [] = []
placed from (piece ∷ pieces) =
    record { from = from; to = from + length piece } ∷ placed (from + length piece + 1) pieces

-- the fields of bytes that begin at a place of a line: the places of the pieces that are not empty
abbrev pub fields_from : ℕ → List ℕ → List Span
fields_from at bytes =
    filter (λ span. nat_lt span.from span.to) (placed at (slice_split is_blank bytes))

abbrev pub field_spans : List ℕ → List Span
field_spans line = fields_from 0 line

-- lines after so many others; a CR that is dropped stays between a line and the next one
abbrev pub placed_lines : ℕ → ℕ → List (List ℕ) → List Line
placed_lines before from [] = []
placed_lines before from (piece ∷ pieces) =
    let span : Span = record { from = from; to = from + length (without_cr piece) } in
    let next = from + length piece + 1 in
    record { number = before + 1; span = span } ∷ placed_lines (before + 1) next pieces

-- the lines of bytes that begin at a place of a text
abbrev pub lines_from : ℕ → ℕ → List ℕ → List Line
lines_from before at bytes = placed_lines before at (line_pieces bytes)

abbrev pub line_spans : List ℕ → List Line
line_spans bytes = lines_from 0 0 bytes
