-- Values as two halves of 32 bits.
use Rattle.std.proofs.Common.{◌≡◌, ℕ, ◌+◌, ◌*◌, ◌/◌, ◌%◌, ◌<◌, ◌≤◌, ◌^◌, List, get_or, sum, refl, add-one, arith}
use Rattle.std.proofs.Math.Nat.{mul-le-mul_left, mul-le-mul_right}
use Rattle.sota_units.specs.Rounding.{SCALE_LIMIT}
use Rattle.sota_block.specs.Product.{sum_below}
use Rattle.sota_block.proofs.Crossings.{halves}
use Rattle.sota_block.proofs.Sums.{sum_below-list-le}

-- a half is below 2 ^ 32
pub low-le : (m v : ℕ) → m * (v % 4294967296) ≤ m * 4294967295
low-le m v = mul-le-mul_left m (omega arith)

pub high-le : (m v : ℕ) → v < 2 ^ 64 → m * (v / 4294967296) ≤ m * 4294967295
high-le m v small = mul-le-mul_left m (omega arith)

-- Two numbers that hold the sum of the products f k * g k for the k below n: of the lower and of the upper halves of the g k
pub record IsSplit (f g : ℕ → ℕ) (n low high : ℕ) : Type 0 where
  pub sum : low + 4294967296 * high ≡ sum_below n (λ k. f k * g k)
  pub low_le : low ≤ sum_below n f * 4294967295
  pub high_le : high ≤ sum_below n f * 4294967295

-- no product yet
pub IsSplit-none : (f g : ℕ → ℕ) → IsSplit f g 0 0 0
IsSplit-none f g = record { sum = omega arith; low_le = omega arith; high_le = omega arith }

-- one product more
pub IsSplit-more : (f g : ℕ → ℕ) (n low high m v : ℕ) → IsSplit f g n low high → m ≡ f n → v ≡ g n → v < 2 ^ 64
    → IsSplit f g (n + 1) (low + m * (v % 4294967296)) (high + m * (v / 4294967296))
IsSplit-more f g n low high m v split mass value small =
    let product : m * v ≡ f n * g n = rw (mass, value) refl in
    let s = split.sum in
    let a = split.low_le in
    let b = split.high_le in
    rw add-one (record {
      sum = omega (arith, halves m v, s, product);
      low_le = omega (arith, low-le m v, a, mass);
      high_le = omega (arith, high-le m v small, b, mass);
    })

-- neither number is large
pub IsSplit-small : (f g : ℕ → ℕ) (n low high : ℕ) → IsSplit f g n low high → sum_below n f ≤ SCALE_LIMIT → (low ≤ 4294967295000000000) × (high ≤ 4294967295000000000)
IsSplit-small f g n low high split few =
    let most : sum_below n f * 4294967295 ≤ 4294967295000000000 = mul-le-mul_right 4294967295 few in
    (omega (arith, split.low_le), omega (arith, split.high_le))

-- what stands at each place of a list, and 0 past its end
abbrev pub at : List ℕ → ℕ → ℕ
at xs k = get_or xs k 0

pub few-part : (masses : List ℕ) (n : ℕ) → sum masses ≤ SCALE_LIMIT → sum_below n (at masses) ≤ SCALE_LIMIT
few-part masses n few = omega (arith, sum_below-list-le masses n)
