-- A field is a confidence exactly where it is the spelling of a probability.
use Rattle.std.proofs.Common.{◌≡◌, ℕ, zero, suc, ◌+◌, ◌*◌, ◌/◌, ◌%◌, ◌^◌, ◌<◌, ◌≤◌, List, ◌∷◌, true, nat_le, Some, refl, ◌∙◌, ap, arith}
use Rattle.std.specs.Str.{bytes_eq}
use Rattle.std.specs.Char.{digit_value}
use Rattle.std.specs.Str.Parse.{digits_value}
use Rattle.std.proofs.Math.Nat.{pow-suc}
use Rattle.std.proofs.lemmas.Int.Digits.{digits_value_push}
use Rattle.std.proofs.lemmas.Slice.Eq.{bytes_eq-Decides}
use Rattle.std.proofs.lemmas.Str.{digit_value_digit}
use Rattle.sota_units.specs.GrainText.{fixed, grain_spelling}
use Rattle.sota_units.specs.Rounding.{ONE}
use Rattle.sota_script.specs.Lines.{units_of, grain_of}

digit_of : (n : ℕ) → n < 10 → digit_value (48 + n) ≡ n
digit_of n small =
    let is : digit_value (48 + n) + 48 ≡ 48 + n = digit_value_digit (48 + n) (omega arith, omega arith) in
    omega (arith, is)

-- a digit and so many further ones have the value that they spell
value_spelled : (first places n : ℕ) → n < 10 ^ places → digits_value 10 (first ∷ fixed places n) ≡ digit_value first * 10 ^ places + n
unfolding fixed
value_spelled first zero n below = omega arith
value_spelled first (suc places) n below =
    let ten : 10 ^ suc places ≡ 10 ^ places * 10 = pow-suc 10 places in
    let front : digits_value 10 (first ∷ fixed places (n / 10)) ≡ digit_value first * 10 ^ places + n / 10 =
    value_spelled first places (n / 10) (omega (arith, ten)) in
    let last : digit_value (48 + n % 10) ≡ n % 10 = digit_of (n % 10) (omega arith) in
    digits_value_push 10 (first ∷ fixed places (n / 10)) (48 + n % 10) ∙ (rw (front, last, ten) (omega arith))

-- a spelling has the digits of its number
units_spelled : (n : ℕ) → n ≤ ONE → units_of (grain_spelling n) ≡ n
unfolding grain_spelling
units_spelled n within =
    let first : digit_value (48 + n / ONE) ≡ n / ONE = digit_of (n / ONE) (omega arith) in
    value_spelled (48 + n / ONE) 18 (n % ONE) (omega arith) ∙ (rw first (omega arith))

pub grain_spelled : (field : List ℕ) (n : ℕ) → n ≤ ONE → field ≡ grain_spelling n → grain_of field ≡ Some n
grain_spelled field n within is =
    let units : units_of field ≡ n = ap units_of is ∙ units_spelled n within in
    let same : bytes_eq field (grain_spelling n) ≡ true = (bytes_eq-Decides field (grain_spelling n)).1 is in
    let few : nat_le n ONE ≡ true = grind (arith, within) in
    rw (units, same, few) refl
