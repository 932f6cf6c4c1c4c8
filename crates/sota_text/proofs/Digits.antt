-- Digits from the left.
use Rattle.std.proofs.Common.{◌≡◌, ℕ, ◌+◌, ◌*◌, ◌≤◌, ◌<◌, List, [], ◌∷◌, Bool, true, false, cond, not, ◌&&◌, nat_le, Some, None, refl, sym, ◌∙◌, ap, arith}
use Rattle.std.specs.Str.{all_ascii_digits}
use Rattle.std.specs.Char.{digit_value}
use Rattle.std.specs.Str.Parse.{digits_value, digits_value_after}
use Rattle.sota_text.specs.Text.{is_empty, number_of}

-- the digits that follow only raise the number
pub after-ge : (ds : List ℕ) (n : ℕ) → n ≤ digits_value_after 10 n ds
after-ge [] n = omega arith
after-ge (c ∷ cs) n = omega (arith, after-ge cs (n * 10 + digit_value c))

third_false : (a b : Bool) (x : ℕ) → None ≡ cond (a && (b && false)) (Some x) None
third_false true true x = refl
third_false true false x = refl
third_false false b x = refl

pub too_great : (bytes : List ℕ) → 4294967295 < digits_value 10 bytes → None ≡ number_of bytes
too_great bytes h =
    let small : nat_le (digits_value 10 bytes) 4294967295 ≡ false = grind arith in
    third_false (not (is_empty bytes)) (all_ascii_digits bytes) (digits_value 10 bytes)
    ∙ ap (λ b. cond (not (is_empty bytes) && (all_ascii_digits bytes && b)) (Some (digits_value 10 bytes)) None) (sym small)
