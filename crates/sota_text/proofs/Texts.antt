-- The bytes of spans are the pieces that they place.
use Rattle.std.proofs.Common.{◌≡◌, ℕ, ◌+◌, ◌-◌, ◌≤◌, suc, List, [], ◌∷◌, Bool, true, false, cond, not, ◌==◌, nat_lt, map, filter, length, take, drop, slice_range, slice_index, refl, sym, ◌∙◌, ap, subst, arith, add-zero, length-drop, length-take-le, take-take, take_all, drop-drop}
use Rattle.std.specs.List.{slice_split, onto_first, enumerate_from}
use Rattle.sota_text.specs.Text.{is_empty, pieces_ended, without_cr}
use Rattle.sota_text.specs.Spans.{bytes_of, AreWithin, AreInOrderFrom, placed, placed_lines}
use Rattle.sota_text.specs.declared.span.Line.{Line}
use Rattle.sota_text.proofs.Parts.{some_part}
use Rattle.sota_text.proofs.Places.{kept, not_below}

-- pieces that stand in bytes from a place on, with one byte between two
abbrev pub Stand : List ℕ → ℕ → List (List ℕ) → Type 0
Stand bytes from [] = Unit {0}
Stand bytes from (piece ∷ pieces) =
    (take (length piece) (drop from bytes) ≡ piece) × (from + length piece ≤ length bytes) × Stand bytes (from + length piece + 1) pieces

drop_next : (bytes xs : List ℕ) (from x : ℕ) → drop from bytes ≡ x ∷ xs → (drop (from + 1) bytes ≡ xs) × (from + 1 ≤ length bytes)
drop_next bytes xs from x e = (sym (drop-drop 1 from bytes) ∙ ap (drop 1) e, omega (arith, length-drop from bytes, ap length e))

front_separator : (bytes : List ℕ) (from : ℕ) (pieces : List (List ℕ)) → from ≤ length bytes → Stand bytes (from + 1) pieces → Stand bytes from ([] ∷ pieces)
front_separator bytes from pieces h stand = (refl, omega arith, rw add-zero stand)

front_byte : (bytes xs : List ℕ) (from x : ℕ) (pieces : List (List ℕ)) → drop from bytes ≡ x ∷ xs → (y : List ℕ) (ys : List (List ℕ)) → pieces ≡ y ∷ ys
    → Stand bytes (from + 1) pieces → Stand bytes from (onto_first x pieces)
front_byte bytes xs from x pieces e y ys is stand =
    let next = drop_next bytes xs from x e in
    let first = subst (λ pieces. Stand bytes (from + 1) pieces) is stand in
    let there : from + 1 + length y + 1 ≡ from + suc (length y) + 1 = omega arith in
    let long : from + suc (length y) ≤ length bytes = omega (arith, first.1) in
    let text : take (length y) xs ≡ y = ap (take (length y)) (sym next.0) ∙ first.0 in
    subst (λ pieces. Stand bytes from (onto_first x pieces)) (sym is)
    (ap (take (suc (length y))) e ∙ ap (λ text. x ∷ text) text, long, subst (λ n. Stand bytes n ys) there first.2)

-- the parts of what stands at a place stand there
pub split_stands : (p : ℕ → Bool) (bytes xs : List ℕ) (from : ℕ) → drop from bytes ≡ xs → from ≤ length bytes → Stand bytes from (slice_split p xs)
split_stands p bytes [] from e h = (refl, omega arith, tt)
split_stands p bytes (x ∷ xs) from e h =
    let next = drop_next bytes xs from x e in
    let rest = split_stands p bytes xs (from + 1) next.0 next.1 in
    let part = some_part p xs in
    elim (p x) as (λ b. Stand bytes from (cond b ([] ∷ slice_split p xs) (onto_first x (slice_split p xs)))) [
      | true ↦ front_separator bytes from (slice_split p xs) h rest
      | false ↦ front_byte bytes xs from x (slice_split p xs) e part.0 part.1 part.2 rest
    ]

-- ---- fields

pub field_texts : (bytes : List ℕ) (from : ℕ) (pieces : List (List ℕ)) → Stand bytes from pieces
    → map (bytes_of bytes) (kept (placed from pieces)) ≡ filter (λ piece. not (is_empty piece)) pieces
field_texts bytes from [] stand = refl
field_texts bytes from ([] ∷ pieces) stand = rw (add-zero, not_below from) (let stand : Stand bytes (from + 1) pieces = rw add-zero at stand.2 in field_texts bytes (from + 1) pieces stand)
field_texts bytes from ((b ∷ bs) ∷ pieces) stand =
    let below : nat_lt from (from + suc (length bs)) ≡ true = grind arith in
    let size : from + suc (length bs) - from ≡ suc (length bs) = omega arith in
    let text : slice_range bytes from (from + suc (length bs)) ≡ b ∷ bs = ap (λ n. take n (drop from bytes)) size ∙ stand.0 in
    rw below (ap (λ rest. slice_range bytes from (from + suc (length bs)) ∷ rest) (field_texts bytes (from + suc (length bs) + 1) pieces stand.2)
    ∙ ap (λ text. text ∷ filter (λ piece. not (is_empty piece)) pieces) text)

pub fields_within : (bytes : List ℕ) (from : ℕ) (pieces : List (List ℕ)) → Stand bytes from pieces → AreWithin bytes (kept (placed from pieces))
fields_within bytes from [] stand = tt
fields_within bytes from (piece ∷ pieces) stand =
    let rest = fields_within bytes (from + length piece + 1) pieces stand.2 in
    elim (nat_lt from (from + length piece)) as (λ b. AreWithin bytes (cond b (record { from = from; to = from + length piece } ∷ kept (placed (from + length piece + 1) pieces)) (kept (placed (from + length piece + 1) pieces)))) [
      | true ↦ ((omega arith, stand.1), rest)
      | false ↦ rest
    ]

pub fields_in_order : (at from : ℕ) (pieces : List (List ℕ)) → at ≤ from → AreInOrderFrom at (kept (placed from pieces))
fields_in_order at from [] h = tt
fields_in_order at from (piece ∷ pieces) h =
    let next = from + length piece + 1 in
    elim (nat_lt from (from + length piece)) as (λ b. AreInOrderFrom at (cond b (record { from = from; to = from + length piece } ∷ kept (placed next pieces)) (kept (placed next pieces)))) [
      | true ↦ (h, fields_in_order (from + length piece) next pieces (omega arith))
      | false ↦ fields_in_order at next pieces (omega (arith, h))
    ]

-- ---- lines

ended_stand : (bytes : List ℕ) (from : ℕ) (pieces : List (List ℕ)) → Stand bytes from pieces → Stand bytes from (pieces_ended pieces)
ended_stand bytes from [] stand = tt
ended_stand bytes from (piece ∷ more ∷ pieces) stand = (stand.0, stand.1, ended_stand bytes (from + length piece + 1) (more ∷ pieces) stand.2)
ended_stand bytes from (last ∷ []) stand = elim (is_empty last) as (λ b. Stand bytes from (cond b [] (last ∷ []))) [ true ↦ tt | false ↦ stand ]

-- a line is a front of its piece
line_is_front : (piece : List ℕ) → (k : ℕ) × (k ≤ length piece) × (without_cr piece ≡ take k piece)
line_is_front piece =
    elim (slice_index piece (length piece - 1) == 13) as (λ b. (k : ℕ) × (k ≤ length piece) × (cond b (take (length piece - 1) piece) piece ≡ take k piece)) [
      | true ↦ (length piece - 1, omega arith, refl)
      | false ↦ (length piece, omega arith, sym (take_all (length piece) piece (omega arith)))
    ]

-- what a line says where its piece stands
pub record StandsAs (bytes : List ℕ) (from : ℕ) (line piece : List ℕ) : Type 0 where
  pub text : slice_range bytes from (from + length line) ≡ line
  pub within : from + length line ≤ length bytes

line_stands : (bytes : List ℕ) (from : ℕ) (piece : List ℕ) → take (length piece) (drop from bytes) ≡ piece → from + length piece ≤ length bytes
    → StandsAs bytes from (without_cr piece) piece
line_stands bytes from piece e h =
    let front = line_is_front piece in
    let k = front.0 in
    let few : k ≤ length piece = front.1 in
    let is : without_cr piece ≡ take k (drop from bytes) = front.2 ∙ ap (take k) (sym e) ∙ take-take k (length piece) (drop from bytes) few in
    let size : length (without_cr piece) ≡ k = ap length is ∙ length-take-le k (drop from bytes) (omega (arith, length-drop from bytes)) in
    let there : from + length (without_cr piece) - from ≡ k = omega arith in
    record { text = ap (λ n. take n (drop from bytes)) there ∙ sym is; within = omega arith }

pub line_texts : (bytes : List ℕ) (before from : ℕ) (pieces : List (List ℕ)) → Stand bytes from pieces
    → map (λ (line : Line). (line.number, bytes_of bytes line.span)) (placed_lines before from pieces) ≡ enumerate_from (before + 1) (map without_cr pieces)
line_texts bytes before from [] stand = refl
line_texts bytes before from (piece ∷ pieces) stand =
    ap (λ rest. (before + 1, slice_range bytes from (from + length (without_cr piece))) ∷ rest) (line_texts bytes (before + 1) (from + length piece + 1) pieces stand.2)
    ∙ ap (λ text. (before + 1, text) ∷ enumerate_from (before + 1 + 1) (map without_cr pieces)) (line_stands bytes from piece stand.0 stand.1).text

pub lines_within : (bytes : List ℕ) (before from : ℕ) (pieces : List (List ℕ)) → Stand bytes from pieces
    → AreWithin bytes (map (λ (line : Line). line.span) (placed_lines before from pieces))
lines_within bytes before from [] stand = tt
lines_within bytes before from (piece ∷ pieces) stand =
    ((omega arith, (line_stands bytes from piece stand.0 stand.1).within), lines_within bytes (before + 1) (from + length piece + 1) pieces stand.2)

pub ended_stands : (p : ℕ → Bool) (bytes : List ℕ) → Stand bytes 0 (pieces_ended (slice_split p bytes))
ended_stands p bytes = ended_stand bytes 0 (slice_split p bytes) (split_stands p bytes bytes 0 refl (omega arith))
