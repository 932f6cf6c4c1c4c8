-- A line that is resolved field by field.
use Rattle.std.proofs.Common.{◌≡◌, ℕ, ◌-◌, ◌<◌, ◌≤◌, zero, suc, List, [], ◌∷◌, ◌++◌, length, take, drop, slice_range, Option, Some, None, Ok, refl, sym, ◌∙◌, ap, subst, arith, append_assoc, length-drop, length-take-le, take_all}
use Rattle.std.specs.Prelude.{option_map, option_and_then}
use Rattle.std.proofs.lemmas.Iterator.Adapters.{option_map_id}
use Rattle.sota_units.specs.Memory.{or_fault}
use Rattle.sota_text.specs.declared.span.Span.{Span}
use Rattle.sota_text.specs.Spans.{bytes_of, field_spans, AreInOrderFrom}
use Rattle.sota_report.specs.Names.{Place}
use Rattle.sota_report.specs.Resolved.{resolved, resolved_from, resolved_fields, resolved_field, node_fields}
use Rattle.sota_report.specs.declared.fault.ResolveFault.TheVariants as faults

-- what is written and what the rest gives
abbrev pub with_rest : List ℕ → Option (List ℕ) → Option (List ℕ)
with_rest out rest = option_map (λ rest. out ++ rest) rest

-- nothing is written before the fields after the word
pub begins : (places : List Place) (line out : List ℕ) (all spans : List Span) (word : Span) (left : ℕ) → out ≡ [] → all ≡ field_spans line → all ≡ word ∷ spans
    → left ≡ node_fields (bytes_of line word) → with_rest out (resolved_from places line 0 (take left spans)) ≡ resolved places line
begins places line out all spans word left empty fields first count =
    ap (λ out. with_rest out (resolved_from places line 0 (take left spans))) empty
    ∙ option_map_id (resolved_from places line 0 (take left spans))
    ∙ ap (λ left. resolved_from places line 0 (take left spans)) count
    ∙ ap (resolved_fields places line) (sym first ∙ fields)

-- no field is left to be looked at
pub finished : (places : List Place) (line out : List ℕ) (done : ℕ) (spans : List Span) {whole : Option (List ℕ)} → with_rest out (resolved_from places line done spans) ≡ whole → spans ≡ []
    → whole ≡ Some (out ++ drop done line)
finished places line out done spans all none = sym all ∙ ap (λ spans. with_rest out (resolved_from places line done spans)) none

rest_behind : (out before text : List ℕ) (rest : Option (List ℕ)) → with_rest ((out ++ before) ++ text) rest ≡ with_rest out (option_map (λ rest. before ++ (text ++ rest)) rest)
rest_behind out before text None = refl
rest_behind out before text (Some rest) = ap Some (append_assoc (out ++ before) text rest ∙ append_assoc out before (text ++ rest))

pub none_of_none : (left : ℕ) (spans : List Span) → left ≤ 0 → take left spans ≡ []
none_of_none zero spans h = refl
none_of_none (suc left) spans h = absurd (omega arith)

pub nothing_left : (left : ℕ) (spans : List Span) → spans ≡ [] → take left spans ≡ []
nothing_left zero spans h = refl
nothing_left (suc left) spans h = ap (take (suc left)) h

-- a field is written after the bytes before it
field_written : (places : List Place) (line out before : List ℕ) (to : ℕ) (spans : List Span) (text : Option (List ℕ)) {out2 : List ℕ}
    → or_fault faults.Place (option_map (λ text. (out ++ before) ++ text) text) ≡ Ok out2
    → with_rest out2 (resolved_from places line to spans)
    ≡ with_rest out (option_and_then (λ text. option_map (λ rest. before ++ (text ++ rest)) (resolved_from places line to spans)) text)
field_written places line out before to spans None {out2} wrote = absurd (grind (arith, wrote))
field_written places line out before to spans (Some text) {out2} wrote =
    let is : (out ++ before) ++ text ≡ out2 = cc wrote in
    ap (λ out. with_rest out (resolved_from places line to spans)) (sym is) ∙ rest_behind out before text (resolved_from places line to spans)

first_of_some : (left : ℕ) (field : Span) (spans : List Span) → 0 < left → take left (field ∷ spans) ≡ field ∷ take (left - 1) spans
first_of_some zero field spans h = absurd (omega arith)
first_of_some (suc left) field spans h = let one : suc left - 1 ≡ left = omega arith in ap (λ n. field ∷ take n spans) (sym one)

pub steps : (places : List Place) (line out : List ℕ) {out1 out2 : List ℕ} (done left : ℕ) (field : Span) (all spans : List Span) {whole : Option (List ℕ)}
    → with_rest out (resolved_from places line done (take left all)) ≡ whole → 0 < left → all ≡ field ∷ spans → out1 ≡ out ++ slice_range line done field.from
    → or_fault faults.Place (option_map (λ text. out1 ++ text) (resolved_field places (bytes_of line field))) ≡ Ok out2
    → with_rest out2 (resolved_from places line field.to (take (left - 1) spans)) ≡ whole
steps places line out {out1} {out2} done left field all spans {whole} before some first copied wrote =
    let wrote : or_fault faults.Place (option_map (λ text. (out ++ slice_range line done field.from) ++ text) (resolved_field places (bytes_of line field))) ≡ Ok out2 =
    subst (λ out1. or_fault faults.Place (option_map (λ text. out1 ++ text) (resolved_field places (bytes_of line field))) ≡ Ok out2) copied wrote in
    field_written places line out (slice_range line done field.from) field.to (take (left - 1) spans) (resolved_field places (bytes_of line field)) wrote
    ∙ ap (λ spans. with_rest out (resolved_from places line done spans)) (sym (ap (take left) first ∙ first_of_some left field spans some))
    ∙ before

-- the bytes after the last field
pub end_of : (line : List ℕ) (done : ℕ) → slice_range line done (length line) ≡ drop done line
end_of line done = take_all (length line - done) (drop done line) (omega (arith, length-drop done line))

pub length_of : (line : List ℕ) (from to : ℕ) → from ≤ to → to ≤ length line → length (slice_range line from to) ≡ to - from
length_of line from to order inside = length-take-le (to - from) (drop from line) (omega (arith, length-drop from line))

-- ---- places

pub from_start : (spans : List Span) (at : ℕ) → AreInOrderFrom at spans → AreInOrderFrom 0 spans
from_start [] at order = tt
from_start (span ∷ spans) at order = (omega arith, order.1)
