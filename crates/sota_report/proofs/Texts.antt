-- Names are UTF-8.
use Rattle.std.proofs.Common.{◌≡◌, ℕ, List, [], ◌∷◌, ◌++◌, Bool, true, false, cond, Some, None, Ok, Err, refl, sym, subst, arith}
use Rattle.std.specs.Prelude.{All}
use Rattle.std.specs.Str.{IsUtf8, is_utf8, bytes_eq}
use Rattle.std.specs.Cmp.Lexicographic.{bytes_decides}
use Rattle.std.proofs.lemmas.List.Elements.{All-append, All-cons, All-head, All-tail}
use Rattle.std.proofs.lemmas.Str.{IsUtf8-from_is_utf8, is_utf8-from_IsUtf8}
use Rattle.sota_report.specs.Names.{Place, node_of, parse_place_name}
use Rattle.sota_report.specs.declared.fault.NamesFault.TheVariants.{NotText}

pub name_read : (line : ℕ) (field : List ℕ) → IsUtf8 field → parse_place_name line field ≡ Ok field
name_read line field is = rw (is_utf8-from_IsUtf8 field is) refl

pub no_name : (line : ℕ) (field : List ℕ) → ¬ (IsUtf8 field) → parse_place_name line field ≡ Err (NotText line)
no_name line field not =
    elim (is_utf8 field) as (λ b. is_utf8 field ≡ b → cond b (Ok field) (Err (NotText line)) ≡ Err (NotText line)) [
      | true ↦ λ is. absurd (not (IsUtf8-from_is_utf8 field is))
      | false ↦ λ is. refl
    ] refl

-- what is not UTF-8 is the name of no place
pub no_place : (places : List Place) (name : List ℕ) → All (λ place. IsUtf8 place.0) places → ¬ (IsUtf8 name) → node_of places name ≡ None
no_place [] name texts not = refl
no_place (place ∷ places) name texts not = by (bytes_eq name place.0) refl (no_place places name (All-tail (λ (place : Place). IsUtf8 place.0) place places texts) not)
  where
    by : (b : Bool) → bytes_eq name place.0 ≡ b → node_of places name ≡ None → cond b (Some place.1) (node_of places name) ≡ None
    by true e rest = absurd (not (subst IsUtf8 (sym ((bytes_decides name place.0).0 e)) (All-head (λ (place : Place). IsUtf8 place.0) place places texts)))
    by false e rest = rest

pub all_texts : (places : List Place) (place : Place) {all : List Place} → All (λ place. IsUtf8 place.0) places → IsUtf8 place.0 → all ≡ places ++ place ∷ [] → All (λ place. IsUtf8 place.0) all
all_texts places place {all} texts text e = subst (λ all. All (λ (place : Place). IsUtf8 place.0) all) (sym e) (All-append (λ (place : Place). IsUtf8 place.0) places (place ∷ []) texts (All-cons (λ (place : Place). IsUtf8 place.0) place [] text (λ k d h. absurd (omega arith))))
