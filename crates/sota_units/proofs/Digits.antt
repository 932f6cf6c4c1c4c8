-- Decimal digits of a fixed number of places.
use Rattle.std.proofs.Common.{◌≡◌, ℕ, zero, suc, ◌+◌, ◌-◌, ◌*◌, ◌/◌, ◌%◌, ◌^◌, ◌<◌, ◌≤◌, List, [], ◌∷◌, ◌++◌, get_or, take, drop, length, lit<, refl, sym, ◌∙◌, ap, subst, ⊎_elim, add-one, arith}
use Rattle.std.specs.Fmt.{decimal}
use Rattle.std.proofs.lemmas.Nat.{div-mul-add, mod-mul-add}
use Rattle.std.proofs.Math.Nat.{pow-suc, pow-le-pow_right, mul-add-div_right, one-le-pow}
use Rattle.std.proofs.lemmas.Fmt.{decimal_digit, decimal_step_wide}
use Rattle.std.proofs.lemmas.List.{length_push, length-drop, take_rest, take_more, get_or_append_left, get_or_at, same_from_push}
use Rattle.std.proofs.lemmas.Bool.{cases_lt}
use Rattle.sota_units.specs.Rounding.{ONE}
use Rattle.sota_units.specs.GrainText.{fixed, grain_spelling}

pub length-fixed : (places n : ℕ) → length (fixed places n) ≡ places
unfolding fixed
length-fixed zero n = refl
length-fixed (suc places) n = length_push (fixed places (n / 10)) (48 + n % 10) ∙ (let shorter : length (fixed places (n / 10)) ≡ places = length-fixed places (n / 10) in omega arith)

-- a leading 1 keeps the zeros that follow it
pub decimal-fixed : (places n : ℕ) → n < 10 ^ places → 10 ^ places + n < 10 ^ 64 → decimal (10 ^ places + n) ≡ 49 ∷ fixed places n
unfolding fixed
decimal-fixed zero n below room =
    let none : 1 + n ≡ 1 = omega arith in
    rw none (decimal_digit 1 (omega arith))
decimal-fixed (suc places) n below room =
    let ten : 10 ^ suc places ≡ 10 ^ places * 10 = pow-suc 10 places in
    let front : (10 ^ suc places + n) / 10 ≡ 10 ^ places + n / 10 = rw ten (mul-add-div_right (lit< tt) (10 ^ places) n) in
    let last : (10 ^ suc places + n) % 10 ≡ n % 10 = omega (arith, ten, front) in
    let shorter : n / 10 < 10 ^ places = omega (arith, ten) in
    let within : 10 ^ places + n / 10 < 10 ^ 64 = omega (arith, ten) in
    let long : 10 ≤ 10 ^ suc places + n = omega (arith, ten, one-le-pow places 10 (lit< tt)) in
    decimal_step_wide (10 ^ suc places + n) long room ∙ (rw (front, last) (rw (decimal-fixed places (n / 10) shorter within) refl))

-- the text of a leading 1 with the 18 digits of a number of units
pub units_text : (n : ℕ) → decimal (ONE + n % ONE) ≡ 49 ∷ fixed 18 (n % ONE)
units_text n = decimal-fixed 18 (n % ONE) (omega arith) (omega arith)

-- its part after the first byte is the 18 digits
pub one_first : (n : ℕ) (text : List ℕ) → text ≡ decimal (ONE + n % ONE) → (1 ≤ length text) × (18 ≡ length (take (length text - 1) (drop 1 text))) × (take (length text - 1) (drop 1 text) ≡ fixed 18 (n % ONE))
one_first n text is =
    let whole : text ≡ 49 ∷ fixed 18 (n % ONE) = is ∙ units_text n in
    let rest : take (length text - 1) (drop 1 text) ≡ fixed 18 (n % ONE) = take_rest text 1 ∙ (rw whole refl) in
    let long : length (fixed 18 (n % ONE)) ≡ 18 = length-fixed 18 (n % ONE) in
    (let h : length text ≡ suc (length (fixed 18 (n % ONE))) = ap length whole in omega arith, rw rest (sym long), rest)

fixed-empty : (n : ℕ) → fixed 0 n ≡ []
unfolding fixed
fixed-empty n = refl

pub fixed-suc : (places n : ℕ) → fixed (suc places) n ≡ fixed places (n / 10) ++ (48 + n % 10) ∷ []
unfolding fixed
fixed-suc places n = refl

-- one more digit at the end
pub fixed_more : (places n digit : ℕ) → digit < 10 → fixed (places + 1) (10 * n + digit) ≡ fixed places n ++ (48 + digit) ∷ []
fixed_more places n digit small =
    let front : (10 * n + digit) / 10 ≡ n = omega arith in
    let last : (10 * n + digit) % 10 ≡ digit = omega arith in
    rw (add-one) (fixed-suc places (10 * n + digit) ∙ (rw (front, last) refl))

-- each byte is a digit
pub fixed_digit : (places n k : ℕ) → k < places → (48 ≤ get_or (fixed places n) k 0) × (get_or (fixed places n) k 0 < 58)
fixed_digit zero n k below = absurd (omega arith)
fixed_digit (suc places) n k below =
    let long : length (fixed places (n / 10)) ≡ places = length-fixed places (n / 10) in
    rw (fixed-suc places n)
    (⊎_elim
    (λ (front : k < places). rw (get_or_append_left (fixed places (n / 10)) ((48 + n % 10) ∷ []) 0 k (let x : k < length (fixed places (n / 10)) = omega arith in x)) (fixed_digit places (n / 10) k front))
    (λ (last : places ≤ k). rw (get_or_at (fixed places (n / 10)) (48 + n % 10) [] 0 k (let x : length (fixed places (n / 10)) ≡ k = omega arith in x)) (omega arith, omega arith))
    (cases_lt k places))

-- numbers with one text are one
pub fixed_injective : (places m n : ℕ) → m < 10 ^ places → n < 10 ^ places → fixed places m ≡ fixed places n → m ≡ n
fixed_injective zero m n small_m small_n same = omega arith
fixed_injective (suc places) m n small_m small_n same =
    let ten : 10 ^ suc places ≡ 10 ^ places * 10 = pow-suc 10 places in
    let parts : (fixed places (m / 10) ≡ fixed places (n / 10)) × (48 + m % 10 ≡ 48 + n % 10) =
    same_from_push (fixed places (m / 10)) (fixed places (n / 10)) (48 + m % 10) (48 + n % 10) (sym (fixed-suc places m) ∙ same ∙ fixed-suc places n) in
    let fronts : m / 10 ≡ n / 10 = fixed_injective places (m / 10) (n / 10) (omega (arith, ten)) (omega (arith, ten)) parts.0 in
    let lasts : m % 10 ≡ n % 10 = omega (arith, parts.1) in
    omega arith

-- what was read of the digits, one digit on
pub digits_more : (digits : List ℕ) (i n : ℕ) → i < length digits → 48 ≤ get_or digits i 0 → get_or digits i 0 < 58 → n < 10 ^ i → take i digits ≡ fixed i n
    → (10 * n + (get_or digits i 0 - 48) < 10 ^ (i + 1)) × (take (i + 1) digits ≡ fixed (i + 1) (10 * n + (get_or digits i 0 - 48)))
digits_more digits i n within low high small spelled =
    let ten : 10 ^ (i + 1) ≡ 10 ^ i * 10 = rw add-one (pow-suc 10 i) in
    let back : 48 + (get_or digits i 0 - 48) ≡ get_or digits i 0 = omega arith in (
      omega (arith, ten),
      rw (take_more digits i 0 within, spelled) (rw (fixed_more i n (get_or digits i 0 - 48) (omega arith), back) refl),
    )

-- a byte that is no digit shows that a text spells no number
pub not_spelled : (digits : List ℕ) (i : ℕ) → i < length digits → (48 ≤ get_or digits i 0 → get_or digits i 0 < 58 → ⊥) → (n : ℕ) → digits ≡ fixed (length digits) n → ⊥
not_spelled digits i within other n spelled =
    let is : (48 ≤ get_or digits i 0) × (get_or digits i 0 < 58) =
    subst (λ (text : List ℕ). (48 ≤ get_or text i 0) × (get_or text i 0 < 58)) (sym spelled) (fixed_digit (length digits) n i within) in
    other is.0 is.1

-- 18 digits are below one
pub small_power : (i : ℕ) → i ≤ 18 → 10 ^ i ≤ ONE
small_power i within = pow-le-pow_right {n = 10} (lit< tt) {i = i} {j = 18} within

-- what stands in the text of a probability
pub record Spells (bytes : List ℕ) (n : ℕ) : Type 0 where
  pub long : length bytes ≡ 20
  pub point : get_or bytes 1 0 ≡ 46
  pub whole : get_or bytes 0 0 ≡ 48 + n / ONE
  pub units : drop 2 bytes ≡ fixed 18 (n % ONE)

pub spells : (bytes : List ℕ) (n : ℕ) → bytes ≡ grain_spelling n → Spells bytes n
unfolding grain_spelling
spells bytes n is = record {
  long = rw is (let h : length (fixed 18 (n % ONE)) ≡ 18 = length-fixed 18 (n % ONE) in omega arith);
  point = rw is refl;
  whole = rw is refl;
  units = rw is refl;
}

-- a text with these parts is a probability's
pub spelled : (bytes : List ℕ) (units : ℕ) → length bytes ≡ 20 → get_or bytes 1 0 ≡ 46 → 48 ≤ get_or bytes 0 0 → units < ONE → drop 2 bytes ≡ fixed 18 units
    → bytes ≡ grain_spelling ((get_or bytes 0 0 - 48) * ONE + units)
unfolding grain_spelling
spelled [] units long point digit below rest = absurd (omega arith)
spelled (w ∷ []) units long point digit below rest = absurd (omega arith)
spelled (w ∷ p ∷ bytes) units long point digit below rest =
    let quotient : ((w - 48) * ONE + units) / ONE ≡ w - 48 = div-mul-add (w - 48) ONE units below in
    let remainder : ((w - 48) * ONE + units) % ONE ≡ units = mod-mul-add (w - 48) ONE units below in
    let first : w ≡ 48 + (w - 48) = omega arith in
    rw (quotient, remainder) (rw (← first, point, rest) refl)

-- it is the text of no other
pub spells_one : (bytes : List ℕ) (units n : ℕ) → Spells bytes n → units < ONE → drop 2 bytes ≡ fixed 18 units → (get_or bytes 0 0 - 48) * ONE + units ≡ n
spells_one bytes units n text below rest =
    let same : units ≡ n % ONE = fixed_injective 18 units (n % ONE) below (omega arith) (sym rest ∙ text.units) in
    omega (arith, text.whole)

-- the bytes after the point, as they are read
pub units_part : (bytes : List ℕ) → length bytes ≡ 20 → (take (length bytes - 2) (drop 2 bytes) ≡ drop 2 bytes) × (length (take (length bytes - 2) (drop 2 bytes)) ≡ 18)
units_part bytes long =
    let same : take (length bytes - 2) (drop 2 bytes) ≡ drop 2 bytes = take_rest bytes 2 in
    (same, rw same (omega (arith, length-drop 2 bytes)))
