-- Sums over pairs of a tick and a mass, in two halves.
use Rattle.std.proofs.Common.{◌≡◌, ℕ, ◌+◌, ◌-◌, ◌*◌, ◌/◌, ◌%◌, ◌^◌, ◌<◌, ◌≤◌, List, length, get_or, take, refl, sym, ap, ◌∙◌, arith}
use Rattle.std.proofs.lemmas.List.Sums.{sum_by_more, sum_by-take-le}
use Rattle.std.proofs.Math.Nat.{mul-le-mul_left, mul-le-mul_right}
use Rattle.sota_units.specs.Rounding.{SCALE_LIMIT}
use Rattle.sota_block.specs.Pairs.{pairs_sum, pairs_mass}
use Rattle.sota_block.proofs.Crossings.{halves}

-- a half is below 2 ^ 32
low-le : (m v : ℕ) → m * (v % 4294967296) ≤ m * 4294967295
low-le m v = mul-le-mul_left m (omega arith)

high-le : (m v : ℕ) → v < 2 ^ 64 → m * (v / 4294967296) ≤ m * 4294967295
high-le m v small = mul-le-mul_left m (omega arith)

-- two numbers that hold the sum of the products of pairs at a place: of the lower and of the upper halves of the values
pub record Holds (values : List ℕ) (place : ℕ) (pairs : List (ℕ × ℕ)) (low high : ℕ) : Type 0 where
  pub sum : low + 4294967296 * high ≡ pairs_sum values place pairs
  pub low_le : low ≤ pairs_mass pairs * 4294967295
  pub high_le : high ≤ pairs_mass pairs * 4294967295

pub Holds-none : (values : List ℕ) (place : ℕ) (pairs : List (ℕ × ℕ)) → Holds values place (take 0 pairs) 0 0
Holds-none values place pairs = record { sum = refl; low_le = omega arith; high_le = omega arith }

-- one pair more
pub Holds-more : (values : List ℕ) (place : ℕ) (pairs : List (ℕ × ℕ)) (k : ℕ) (p d : ℕ × ℕ) (low high v : ℕ) → k < length pairs → p ≡ get_or pairs k d → v ≡ get_or values (place - p.0) 0 → v < 2 ^ 64
    → Holds values place (take k pairs) low high → Holds values place (take (k + 1) pairs) (low + p.1 * (v % 4294967296)) (high + p.1 * (v / 4294967296))
Holds-more values place pairs k p d low high v inside is value small held =
    let f : ℕ × ℕ → ℕ = λ q. q.1 * get_or values (place - q.0) 0 in
    let g : ℕ × ℕ → ℕ = λ q. q.1 in
    let product : p.1 * v ≡ f p = ap (λ (x : ℕ). p.1 * x) value in
    let more : pairs_sum values place (take (k + 1) pairs) ≡ pairs_sum values place (take k pairs) + f p = sum_by_more f pairs k d inside ∙ ap (λ (q : ℕ × ℕ). pairs_sum values place (take k pairs) + f q) (sym is) in
    let mass : pairs_mass (take (k + 1) pairs) ≡ pairs_mass (take k pairs) + p.1 = sum_by_more g pairs k d inside ∙ ap (λ (q : ℕ × ℕ). pairs_mass (take k pairs) + g q) (sym is) in
    let a = held.sum in
    let b = held.low_le in
    let c = held.high_le in
    record {
      sum = omega (arith, halves p.1 v);
      low_le = omega (arith, low-le p.1 v);
      high_le = omega (arith, high-le p.1 v small);
    }

-- neither number is large
pub Holds-small : (values : List ℕ) (place : ℕ) (pairs : List (ℕ × ℕ)) (k low high : ℕ) → pairs_mass pairs ≤ SCALE_LIMIT → Holds values place (take k pairs) low high
    → (low ≤ 4294967295000000000) × (high ≤ 4294967295000000000)
Holds-small values place pairs k low high few held =
    let part : pairs_mass (take k pairs) ≤ pairs_mass pairs = sum_by-take-le (λ (q : ℕ × ℕ). q.1) pairs k in
    let below : pairs_mass (take k pairs) ≤ SCALE_LIMIT = omega arith in
    let most : pairs_mass (take k pairs) * 4294967295 ≤ SCALE_LIMIT * 4294967295 = mul-le-mul_right 4294967295 below in
    (omega (arith, held.low_le), omega (arith, held.high_le))
