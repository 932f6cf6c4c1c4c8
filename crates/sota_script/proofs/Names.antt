-- A field is a name exactly where it is UTF-8.
use Rattle.std.proofs.Common.{◌≡◌, ℕ, List, true, false, cond, Ok, Err, refl}
use Rattle.std.specs.Str.{IsUtf8, is_utf8}
use Rattle.std.proofs.lemmas.Str.{IsUtf8-from_is_utf8, is_utf8-from_IsUtf8}
use Rattle.sota_script.specs.Lines.{parse_name}
use Rattle.sota_script.specs.declared.fault.LineFault.TheVariants.{Name}

pub name_read : (field : List ℕ) → IsUtf8 field → parse_name field ≡ Ok field
name_read field is = rw (is_utf8-from_IsUtf8 field is) refl

pub no_name : (field : List ℕ) → ¬ (IsUtf8 field) → parse_name field ≡ Err Name
no_name field not =
    elim (is_utf8 field) as (λ b. is_utf8 field ≡ b → cond b (Ok field) (Err Name) ≡ Err Name) [
      | true ↦ λ is. absurd (not (IsUtf8-from_is_utf8 field is))
      | false ↦ λ is. refl
    ] refl
