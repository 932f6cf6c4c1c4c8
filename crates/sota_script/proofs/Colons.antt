-- Where a colon parts the texts of two numbers, it is the first one.
use Rattle.std.proofs.Common.{◌≡◌, ℕ, ◌+◌, ◌<◌, ◌≤◌, List, [], ◌∷◌, ◌++◌, Bool, true, false, cond, ◌&&◌, not, nat_lt, length, take, drop, get_or, Option, Some, None, refl, ◌∙◌, ap, arith}
use Rattle.std.proofs.Math.Seq.{take-append_seam, drop-append-add}
use Rattle.std.proofs.lemmas.List.{drop_all}
use Rattle.std.proofs.lemmas.List.Sums.{split_at_first, passes_at_first}
use Rattle.std.specs.List.{position_or_len, before_first, after_first}
use Rattle.std.specs.Str.{all_ascii_digits}
use Rattle.std.specs.Str.Parse.{digits_value}
use Rattle.sota_text.specs.Text.{is_empty, is_number, number_of}
use Rattle.sota_script.specs.Lines.{both, is_colon, pair_of, IsPair}

and_true : (a b : Bool) → (a && b) ≡ true → (a ≡ true) × (b ≡ true)
and_true true true e = (refl, refl)
and_true true false e = cc
and_true false b e = cc

-- digits before a colon are all that stands before the first one
colon_at : (digits rest : List ℕ) → all_ascii_digits digits ≡ true → position_or_len is_colon (digits ++ 58 ∷ rest) ≡ length digits
colon_at [] rest h = refl
colon_at (d ∷ ds) rest h =
    let digit = and_true _ (all_ascii_digits ds) h in
    let no : is_colon d ≡ false = grind (arith, digit.0) in
    let further : position_or_len is_colon (ds ++ 58 ∷ rest) ≡ length ds = colon_at ds rest digit.1 in
    rw no (omega arith)

number_digits : (text : List ℕ) (n : ℕ) → number_of text ≡ Some n → all_ascii_digits text ≡ true
number_digits text n e =
    elim (is_number text) as (λ b. is_number text ≡ b → cond b (Some (digits_value 10 text)) None ≡ Some n → all_ascii_digits text ≡ true) [
      | true ↦ λ number e. (and_true (all_ascii_digits text) _ (and_true (not (is_empty text)) _ number).1).0
      | false ↦ λ number e. cc
    ] refl e

pub pair_read : (field : List ℕ) (pair : ℕ × ℕ) → IsPair field pair → pair_of field ≡ Some pair
pair_read field pair is =
    let at = colon_at is.tick is.mass (number_digits is.tick pair.0 is.tick_is) in
    let before : before_first is_colon (is.tick ++ 58 ∷ is.mass) ≡ is.tick = ap (λ n. take n (is.tick ++ 58 ∷ is.mass)) at ∙ take-append_seam is.tick (58 ∷ is.mass) in
    let after : after_first is_colon (is.tick ++ 58 ∷ is.mass) ≡ is.mass = ap (λ n. drop (n + 1) (is.tick ++ 58 ∷ is.mass)) at ∙ drop-append-add is.tick (58 ∷ is.mass) 1 in
    ap pair_of is.parts ∙ ap (λ text. both (number_of text) (number_of (after_first is_colon (is.tick ++ 58 ∷ is.mass)))) before
    ∙ ap (λ text. both (number_of is.tick) (number_of text)) after ∙ rw (is.tick_is, is.mass_is) refl

both_there : (a b : Option ℕ) (pair : ℕ × ℕ) → both a b ≡ Some pair → (a ≡ Some pair.0) × (b ≡ Some pair.1)
both_there (Some x) (Some y) pair e = let same : (x, y) ≡ pair = cc in (ap (λ (p : ℕ × ℕ). Some p.0) same, ap (λ (p : ℕ × ℕ). Some p.1) same)
both_there (Some x) None pair e = cc
both_there None b pair e = cc

colon_there : (field : List ℕ) (n : ℕ) → number_of (after_first is_colon field) ≡ Some n → position_or_len is_colon field < length field
colon_there field n e =
    elim (nat_lt (position_or_len is_colon field) (length field)) as (λ b. nat_lt (position_or_len is_colon field) (length field) ≡ b → position_or_len is_colon field < length field) [
      | true ↦ λ inside. grind arith
      | false ↦ λ outside.
          let past : length field ≤ position_or_len is_colon field + 1 = grind arith in
          let nothing : number_of (after_first is_colon field) ≡ None = ap number_of (drop_all (position_or_len is_colon field + 1) field past) in
          cc
    ] refl

is_colon_byte : (byte : ℕ) → is_colon byte ≡ true → byte ≡ 58
is_colon_byte byte e = grind arith

pub pair_only : (field : List ℕ) (pair : ℕ × ℕ) → pair_of field ≡ Some pair → IsPair field pair
pair_only field pair e =
    let parts = both_there (number_of (before_first is_colon field)) (number_of (after_first is_colon field)) pair e in
    let inside = colon_there field pair.1 parts.1 in
    let colon : get_or field (position_or_len is_colon field) 0 ≡ 58 = is_colon_byte _ (passes_at_first is_colon field 0 inside) in
    record {
      tick = before_first is_colon field;
      mass = after_first is_colon field;
      parts = split_at_first is_colon field 0 inside ∙ ap (λ c. before_first is_colon field ++ c ∷ after_first is_colon field) colon;
      tick_is = parts.0;
      mass_is = parts.1;
    }
