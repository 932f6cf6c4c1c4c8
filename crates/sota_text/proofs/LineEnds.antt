-- A line's piece and what stands after it.
use Rattle.std.proofs.Common.{◌≡◌, ℕ, ◌+◌, ◌-◌, ◌<◌, List, [], ◌∷◌, length, drop, slice_range, refl, sym, ◌∙◌, ap, arith, length-drop, take_all}
use Rattle.std.proofs.lemmas.List.{drop_all}
use Rattle.std.specs.List.{slice_split}
use Rattle.sota_text.specs.Text.{is_line_end, pieces_ended, line_pieces}
use Rattle.sota_text.proofs.Parts.{EndsAt, some_part, last_part, inner_part}

-- a piece in front of the others
ended_front : (piece : List ℕ) (bytes : List ℕ) → pieces_ended (piece ∷ slice_split is_line_end bytes) ≡ piece ∷ line_pieces bytes
ended_front piece bytes =
    let part = some_part is_line_end bytes in
    ap (λ parts. pieces_ended (piece ∷ parts)) part.2 ∙ ap (λ parts. piece ∷ pieces_ended parts) (sym part.2)

-- a last piece
ended_last : (piece : List ℕ) → 0 < length piece → pieces_ended (piece ∷ []) ≡ piece ∷ []
ended_last [] h = absurd (omega arith)
ended_last (byte ∷ bytes) h = refl

pub inner_piece : (bytes : List ℕ) (start stop : ℕ) → EndsAt is_line_end bytes start stop → stop < length bytes
    → line_pieces (drop start bytes) ≡ slice_range bytes start stop ∷ line_pieces (drop (stop + 1) bytes)
inner_piece bytes start stop ends e =
    ap pieces_ended (inner_part is_line_end bytes start stop ends e) ∙ ended_front (slice_range bytes start stop) (drop (stop + 1) bytes)

pub last_piece : (bytes : List ℕ) (start stop : ℕ) → EndsAt is_line_end bytes start stop → start < length bytes → stop ≡ length bytes
    → line_pieces (drop start bytes) ≡ slice_range bytes start stop ∷ line_pieces (drop (stop + 1) bytes)
last_piece bytes start stop ends h e =
    let size = length-drop start bytes in
    ap pieces_ended (last_part is_line_end bytes start stop ends e)
    ∙ ended_last (drop start bytes) (omega (arith, size))
    ∙ ap (λ piece. piece ∷ []) (sym (take_all (stop - start) (drop start bytes) (omega (arith, size, e))))
    ∙ ap (λ rest. slice_range bytes start stop ∷ line_pieces rest) (sym (drop_all (stop + 1) bytes (omega (arith, e))))
