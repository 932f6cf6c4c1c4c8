-- A field and what stands after it.
use Rattle.std.proofs.Common.{◌≡◌, ℕ, ◌+◌, ◌-◌, ◌<◌, suc, List, [], ◌∷◌, true, false, nat_lt, filter, length, take, drop, get_or, refl, sym, ◌∙◌, ap, arith, add-zero, drop-cons, length-drop, length-take-le}
use Rattle.std.proofs.lemmas.List.{drop_all}
use Rattle.std.specs.List.{slice_split}
use Rattle.std.proofs.lemmas.List.Splits.{slice_split-cons_yes}
use Rattle.sota_text.specs.declared.span.Span.{Span}
use Rattle.sota_text.specs.Text.{is_blank}
use Rattle.sota_text.specs.Spans.{placed, fields_from}
use Rattle.sota_text.proofs.Parts.{EndsAt, last_part, inner_part}

pub not_below : (at : ℕ) → nat_lt at at ≡ false
not_below at = grind arith

-- the pieces that are not empty
abbrev pub kept : List Span → List Span
kept spans = filter (λ span. nat_lt span.from span.to) spans

pub blank_first : (at b : ℕ) (bs : List ℕ) → is_blank b ≡ true → fields_from at (b ∷ bs) ≡ fields_from (at + 1) bs
blank_first at b bs h = ap (λ pieces. kept (placed at pieces)) (slice_split-cons_yes is_blank b bs h) ∙ rw (add-zero, not_below at) refl

-- a first piece of some length is kept
piece_first : (from to : ℕ) (piece : List ℕ) (pieces : List (List ℕ)) → from < to → from + length piece ≡ to
    → kept (placed from (piece ∷ pieces)) ≡ record { from = from; to = to } ∷ kept (placed (to + 1) pieces)
piece_first from to piece pieces h e = rw e (let below : nat_lt from to ≡ true = grind arith in rw below refl)

-- a field up to the end of the line
pub last_field : (line : List ℕ) (start stop : ℕ) → EndsAt is_blank line start stop → start < stop → stop ≡ length line
    → fields_from start (drop start line) ≡ record { from = start; to = stop } ∷ fields_from stop (drop stop line)
last_field line start stop ends h e =
    let size = length-drop start line in
    ap (λ pieces. kept (placed start pieces)) (last_part is_blank line start stop ends e)
    ∙ piece_first start stop (drop start line) [] h (omega (arith, size))
    ∙ ap (λ (spans : List Span). record { from = start; to = stop } ∷ spans)
    (sym (ap (fields_from stop) (drop_all stop line (omega (arith, e))) ∙ rw (add-zero, not_below stop) refl))

-- a field with a blank after it
pub inner_field : (line : List ℕ) (start stop : ℕ) → EndsAt is_blank line start stop → start < stop → stop < length line
    → fields_from start (drop start line) ≡ record { from = start; to = stop } ∷ fields_from stop (drop stop line)
inner_field line start stop ends h e =
    let size = length-drop start line in
    let next : suc stop ≡ stop + 1 = omega arith in
    ap (λ pieces. kept (placed start pieces)) (inner_part is_blank line start stop ends e)
    ∙ piece_first start stop (take (stop - start) (drop start line)) (slice_split is_blank (drop (stop + 1) line)) h (omega (arith, size, length-take-le (stop - start) (drop start line)))
    ∙ ap (λ (spans : List Span). record { from = start; to = stop } ∷ spans)
    (sym (ap (fields_from stop) (drop-cons line stop 0 e) ∙ blank_first stop (get_or line stop 0) (drop (suc stop) line) (ends.passes e) ∙ ap (λ n. fields_from (stop + 1) (drop n line)) next))
