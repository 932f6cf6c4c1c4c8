-- How bounds of scores go over the pairs of a time, and how they end at a node.
use Rattle.std.proofs.Common.{ℕ, zero, suc, ◌≡◌, ◌+◌, ◌-◌, ◌*◌, ◌^◌, ◌/◌, ◌<◌, ◌≤◌, ◌∙◌, ap, arith, ⊎_elim}
use Rattle.std.proofs.lemmas.Bool.{cases_lt}
use Rattle.std.proofs.lemmas.Nat.{pow-add}
use Rattle.std.proofs.Math.Nat.{mul-le-mul_left, mul-le-mul_right, pow-suc, zero-div}
use Rattle.sota_units.specs.Rounding.{floor_by}

-- a power of the scale, parted at one pair
pub power-parts : (q s t : ℕ) → 1 ≤ s → s ≤ t → q ^ t ≡ q ^ (s - 1) * q * q ^ (t - s)
power-parts q zero t h k = absurd (omega arith)
power-parts q (suc a) t h k =
    let split : t ≡ suc a + (t - suc a) = omega arith in
    let power : q ^ t ≡ q ^ (suc a) * q ^ (t - suc a) = ap (λ (n : ℕ). q ^ n) split ∙ pow-add q (suc a) (t - suc a) in
    let first : q ^ (suc a) ≡ q ^ (suc a - 1) * q = pow-suc q a ∙ ap (λ (n : ℕ). q ^ n * q) (let x : a ≡ suc a - 1 = omega arith in x) in
    power ∙ ap (λ (n : ℕ). n * q ^ (t - suc a)) first

-- one pair more, outward from above; A is q ^ (s - 1) and B is q ^ (t - s)
pub step-up : (w m q A B T sc h W rest : ℕ) → T ≡ A * q * B → w * sc ≤ h * B → w * rest * q ≤ W * T → w * (m * A * sc + rest) * q ≤ (m * h + W) * T
step-up w m q A B T sc h W rest e here more =
    let times : (m * A * q) * (w * sc) ≤ (m * A * q) * (h * B) = mul-le-mul_left (m * A * q) here in
    let T-is : m * h * T ≡ (m * A * q) * (h * B) = rw e (omega arith) in
    omega arith

-- one pair more, outward from below
pub step-down : (w m q A B T sc h W rest : ℕ) → T ≡ A * q * B → h * B ≤ w * sc → W * T ≤ w * rest * q → (m * h + W) * T ≤ w * (m * A * sc + rest) * q
step-down w m q A B T sc h W rest e here more =
    let times : (m * A * q) * (h * B) ≤ (m * A * q) * (w * sc) = mul-le-mul_left (m * A * q) here in
    let T-is : m * h * T ≡ (m * A * q) * (h * B) = rw e (omega arith) in
    omega arith

-- a positive factor may go
pub cancel : (q a b : ℕ) → 1 ≤ q → a * q ≤ b * q → a ≤ b
cancel q a b h k =
    ⊎_elim
    (λ more.
    let over : (b + 1) * q ≤ a * q = mul-le-mul_right q (let y : b + 1 ≤ a = omega arith in y) in
    absurd (omega arith))
    (λ fine. fine)
    (cases_lt b a)

-- from the sum over the pairs to the value of the node
pub close-up : (w q s C h T : ℕ) → 1 ≤ q → w * s * q ≤ C * T → C ≤ h * q → w * s ≤ h * T
close-up w q s C h T pos sum up =
    let one : C * T ≤ (h * q) * T = mul-le-mul_right T up in
    cancel q (w * s) (h * T) pos (omega arith)

pub close-down : (w q s C l T : ℕ) → 1 ≤ q → C * T ≤ w * s * q → l * q ≤ C → l * T ≤ w * s
close-down w q s C l T pos sum floor =
    let here : (l * q) * T ≤ C * T = mul-le-mul_right T floor in
    cancel q (l * T) (w * s) pos (omega arith)

-- a positive quotient is of a positive number
pub positive-from : (q x : ℕ) → 0 < floor_by q x → 0 < x
positive-from q zero h = absurd (let z : 0 / q ≡ 0 = zero-div q in omega arith)
positive-from q (suc x) h = omega arith
