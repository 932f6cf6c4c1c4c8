-- Lines, fields and numbers of a text of bytes.
use Rattle.std.specs.Prelude.{ℕ, ◌-◌, nat_le, List, [], ◌∷◌, Option, Some, None, if◌then◌else◌}
use Rattle.std.specs.Prelude.{Bool, true, false, ◌==◌, ◌||◌, ◌&&◌, not}
use Rattle.std.specs.Prelude.{length, take, map, filter, slice_index}
use Rattle.std.specs.List.{slice_split, enumerate_from}
use Rattle.std.specs.Str.{all_ascii_digits}
use Rattle.std.specs.Str.Parse.{digits_value}

abbrev pub is_empty : {X : Type 0} → List X → Bool
is_empty [] = true
is_empty (x ∷ xs) = false

-- ---- lines

-- LF ends a line
abbrev pub is_line_end : ℕ → Bool
is_line_end byte = byte == 10

-- the pieces between the line ends; what stands after the last one is a piece only where it is
-- not empty
abbrev pub pieces_ended : List (List ℕ) → List (List ℕ)
pieces_ended [] = []
pieces_ended (piece ∷ more ∷ pieces) = piece ∷ pieces_ended (more ∷ pieces)
pieces_ended (last ∷ []) = if is_empty last then [] else last ∷ []

abbrev pub line_pieces : List ℕ → List (List ℕ)
line_pieces bytes = pieces_ended (slice_split is_line_end bytes)

-- one CR at the end of a piece is no part of its line; a second one is
abbrev pub without_cr : List ℕ → List ℕ
without_cr piece =
    if slice_index piece (length piece - 1) == 13 then take (length piece - 1) piece else piece

-- the lines of a text
abbrev pub text_lines : List ℕ → List (List ℕ)
text_lines bytes = map without_cr (line_pieces bytes)

-- the lines with their numbers, counted from 1, blank ones too
abbrev pub numbered_lines : List ℕ → List (ℕ × List ℕ)
numbered_lines bytes = enumerate_from 1 (text_lines bytes)

-- ---- fields

-- space and tab part fields
abbrev pub is_blank : ℕ → Bool
is_blank byte = byte == 32 || byte == 9

-- the fields of a line: the longest runs of bytes other than blanks
abbrev pub fields_of : List ℕ → List (List ℕ)
fields_of line = filter (λ piece. not (is_empty piece)) (slice_split is_blank line)

-- ---- numbers

-- one decimal digit or more, leading zeros allowed, and a value of at most 2^32 - 1
abbrev pub is_number : List ℕ → Bool
is_number bytes =
    not (is_empty bytes) && (all_ascii_digits bytes && nat_le (digits_value 10 bytes) 4294967295)

abbrev pub number_of : List ℕ → Option ℕ
number_of bytes = if is_number bytes then Some (digits_value 10 bytes) else None
