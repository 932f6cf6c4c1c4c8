-- The places that the entries of a map are.
use Rattle.std.proofs.Common.{◌≡◌, ℕ, List, [], ◌∷◌, ◌++◌, Bool, true, false, cond, Option, Some, None, refl, sym, ◌∙◌, ap, arith}
use Rattle.std.specs.Prelude.{String, string_bytes, option_map, slice_get}
use Rattle.std.specs.String.{string_eq}
use Rattle.std.specs.declared.alloc.Global.{Global}
use Rattle.std.specs.Str.{bytes_eq}
use Rattle.std.specs.Map.{lookup}
use Rattle.std.proofs.lemmas.Option.{slice_get-map}
use Rattle.indexmap.specs.IndexMap.{insert_entry}
use Rattle.sota_report.specs.Names.{Place, node_of}
use Rattle.sota_report.specs.Kept.{places_in, name_at}

-- a look-up by a name finds its node
pub found : (entries : List (String Global × ℕ)) (name : List ℕ) → lookup (λ key. bytes_eq name (string_bytes key)) entries ≡ node_of (places_in entries) name
found [] name = refl
found (entry ∷ entries) name = rw (found entries name) refl

named : (entry : Option (String Global × ℕ)) → option_map (λ entry. string_bytes entry.0) entry ≡ option_map (λ (place : Place). place.0) (option_map (λ entry. (string_bytes entry.0, entry.1)) entry)
named None = refl
named (Some entry) = refl

-- the name of the entry at an index
pub name_in : (entries : List (String Global × ℕ)) (index : ℕ) (entry : Option (String Global × ℕ)) → entry ≡ slice_get entries index
    → option_map (λ entry. string_bytes entry.0) entry ≡ name_at (places_in entries) (Some index)
name_in entries index entry e =
    ap (option_map (λ entry. string_bytes entry.0)) e ∙ named (slice_get entries index)
    ∙ ap (option_map (λ (place : Place). place.0)) (sym (slice_get-map (λ entry. (string_bytes entry.0, entry.1)) entries index))

-- a name that is not there goes last
pub appended : (entries : List (String Global × ℕ)) (text : String Global) (node : ℕ) → node_of (places_in entries) (string_bytes text) ≡ None
    → places_in (insert_entry string_eq entries text node) ≡ places_in entries ++ (string_bytes text, node) ∷ []
appended [] text node none = refl
appended (entry ∷ entries) text node none = by (bytes_eq (string_bytes text) (string_bytes entry.0)) (appended entries text node) none
  where
    by : (b : Bool) → (node_of (places_in entries) (string_bytes text) ≡ None → places_in (insert_entry string_eq entries text node) ≡ places_in entries ++ (string_bytes text, node) ∷ [])
        → cond b (Some entry.1) (node_of (places_in entries) (string_bytes text)) ≡ None
        → places_in (cond b ((entry.0, node) ∷ entries) (entry ∷ insert_entry string_eq entries text node)) ≡ places_in (entry ∷ entries) ++ (string_bytes text, node) ∷ []
    by true rest h = absurd (grind (arith, h))
    by false rest h = ap (λ (places : List Place). (string_bytes entry.0, entry.1) ∷ places) (rest h)
