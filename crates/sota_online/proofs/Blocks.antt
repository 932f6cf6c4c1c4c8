-- Where blocks end.
use Rattle.std.proofs.Common.{◌≡◌, ℕ, zero, suc, ◌-◌, ◌+◌, ◌%◌, ◌^◌, ◌<◌, ◌≤◌, bit_and, sym, ap, ◌∙◌, ⊎_elim, arith}
use Rattle.std.proofs.lemmas.Bool.{cases_lt}
use Rattle.std.proofs.lemmas.Nat.{and_mask}
use Rattle.std.proofs.Math.Nat.{mod-add-mod, mod-eq_of_lt, mod_self}
use Rattle.sota_online.specs.Squares.{reached}
use Rattle.sota_online.proofs.Squares.{reached-same}

-- what a mask of the lower bits leaves
pub masked : (first smallest n : ℕ) → smallest ≡ 2 ^ first → bit_and n (smallest - 1) ≡ n % 2 ^ first
masked first smallest n is = ap (λ (m : ℕ). bit_and n (m - 1)) is ∙ and_mask n first

-- a few more within a block, and as many as end it
mod-near : (n k m : ℕ) → n % m + k < m → (n + k) % m ≡ n % m + k
mod-near n k m within = sym (mod-add-mod n m k) ∙ mod-eq_of_lt within

mod-full : (n k m : ℕ) → n % m + k ≡ m → (n + k) % m ≡ 0
mod-full n k m full = sym (mod-add-mod n m k) ∙ ap (λ (x : ℕ). x % m) full ∙ mod_self m

-- where no block ends there, there is more of it
pub block-open : (n k m : ℕ) → n % m + k ≤ m → ((n + k) % m ≡ 0 → ⊥) → n % m + k < m
block-open n k m within odd =
    ⊎_elim (λ (less : n % m + k < m). less) (λ (not : m ≤ n % m + k). absurd (odd (mod-full n k m (omega arith)))) (cases_lt (n % m + k) m)

-- values within a block end none of any level
pub reached-still : (first n k r : ℕ) → n % 2 ^ first + k < 2 ^ first → reached first n r ≡ reached first (n + k) r
reached-still first n zero r within = ap (λ (x : ℕ). reached first x r) (omega arith)
reached-still first n (suc k) r within =
    let odd : (n + suc k) % 2 ^ first ≡ 0 → ⊥ = λ even. omega (arith, even, mod-near n (suc k) (2 ^ first) within) in
    let before : n + k ≡ n + suc k - 1 = omega arith in
    reached-still first n k r (omega arith) ∙ ap (λ (x : ℕ). reached first x r) before ∙ reached-same first (n + suc k) r odd
