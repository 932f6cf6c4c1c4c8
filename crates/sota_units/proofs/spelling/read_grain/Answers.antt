use Rattle.std.proofs.Common.{ℕ, ◌≡◌, ◌<◌, ◌≤◌, ◌+◌, ◌*◌, ◌-◌, ◌%◌, ◌^◌, ◌∙◌, ap, sym, get_or, take, drop, length, List, IfSome, IsSome, Option, None, Some, arith}
use Rattle.std.proofs.lemmas.Option.{IfSome_then}
use Rattle.sota_units.specs.GrainText.{fixed, grain_spelling}
use Rattle.sota_units.specs.Rounding.{ONE}
use Rattle.sota_units.proofs.Digits.{Spells, spells, spelled, spells_one, units_part}
use Rattle.sota_units.proofs.spelling.read_grain.Goals as goal
use Rattle.sota_units.proofs.spelling.read_grain.Goals.{then-bytes-ne20-via-then-bytes-ne20, then-bytes-ne20-via-else-bytes-ne20+then-bytes-ne46, then-bytes-ne20-via-else-bytes-ne20+else-bytes-ne46+then-not-is_ascii_digit}

pub returns-then-bytes-ne20-clause-round_trip : goal.returns-then-bytes-ne20-clause-round_trip
returns-then-bytes-ne20-clause-round_trip c = λ n below is.
    let text : Spells c.args.bytes.now n = spells c.args.bytes.now n is in
    elim c.then-bytes-ne20.branch [
      | then-bytes-ne20-via-then-bytes-ne20 w ↦ absurd (omega arith)
      | then-bytes-ne20-via-else-bytes-ne20+then-bytes-ne46 w ↦ absurd (omega arith)
      | then-bytes-ne20-via-else-bytes-ne20+else-bytes-ne46+then-not-is_ascii_digit w ↦
          (let out = rw w.if-not-is_ascii_digit.true at w.is_ascii_digit.ensures.cases in absurd (omega (arith, out)))
    ]

pub returns-in_err-units-clause-round_trip : goal.returns-in_err-units-clause-round_trip
returns-in_err-units-clause-round_trip c = λ n below is.
    let text : Spells c.args.bytes.now n = spells c.args.bytes.now n is in
    let part = units_part c.args.bytes.now text.long in
    absurd (c.in_err-units.ensures.none (n % ONE) (rw part.1 (part.0 ∙ text.units)))

-- what was read after the point
units_read : (bytes : List ℕ) (units : ℕ) → length bytes ≡ 20 → units < 10 ^ length (take (length bytes - 2) (drop 2 bytes)) → take (length bytes - 2) (drop 2 bytes) ≡ fixed (length (take (length bytes - 2) (drop 2 bytes))) units
    → (units < ONE) × (drop 2 bytes ≡ fixed 18 units)
units_read bytes units long below is =
    let part = units_part bytes long in
    (rw part.1 at below, sym part.0 ∙ (rw part.1 at is))

-- a text whose parts were read and the number made of them
read_text : (bytes : List ℕ) (units whole : ℕ) → length bytes ≡ 20 → get_or bytes 1 0 ≡ 46 → 48 ≤ get_or bytes 0 0 → whole ≡ get_or bytes 0 0 - 48
    → (units < ONE) × (drop 2 bytes ≡ fixed 18 units) → (r : Option ℕ) → IfSome r (λ grain. grain ≡ whole * ONE + units) → IfSome r (λ grain. bytes ≡ grain_spelling grain)
read_text bytes units whole long point digit is read r value =
    IfSome_then r value (λ grain same. rw (same, is) (spelled bytes units long point digit read.0 read.1))

pub returns-clause-some : goal.returns-clause-some
returns-clause-some c =
    let digit = rw c.if-not-is_ascii_digit.false at c.is_ascii_digit.ensures.cases in
    read_text c.args.bytes.now c.in_ok-units.units c.from-whole.result (omega arith) (omega arith) (omega (arith, digit)) c.from-whole.ensures
    (units_read c.args.bytes.now c.in_ok-units.units (omega arith) c.in_ok-units.ensures.below c.in_ok-units.ensures.some)
    c.new.result c.new.ensures.value

-- the number is there, and is this one
some_value : (r : Option ℕ) (v n : ℕ) → v ≡ n → n ≤ ONE → (v ≤ ONE → IsSome r) → IfSome r (λ grain. grain ≡ v) → r ≡ Some n
some_value None v n same within some value = let no : IsSome {T = ℕ} None = some (omega arith) in cc
some_value (Some x) v n same within some value = ap (λ (y : ℕ). Some y) (value ∙ same)

pub returns-clause-round_trip : goal.returns-clause-round_trip
returns-clause-round_trip c = λ n below is.
    let text : Spells c.args.bytes.now n = spells c.args.bytes.now n is in
    let read = units_read c.args.bytes.now c.in_ok-units.units text.long c.in_ok-units.ensures.below c.in_ok-units.ensures.some in
    some_value c.new.result (c.from-whole.result * ONE + c.in_ok-units.units) n
    (rw c.from-whole.ensures (spells_one c.args.bytes.now c.in_ok-units.units n text read.0 read.1))
    below c.new.ensures.some.1 c.new.ensures.value
