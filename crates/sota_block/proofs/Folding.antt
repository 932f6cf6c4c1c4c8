-- What a step of folding keeps: lengths, totals, limits and counts.
use Rattle.std.proofs.Common.{◌≡◌, ℕ, zero, suc, ◌+◌, ◌*◌, ◌/◌, ◌^◌, ◌<◌, ◌≤◌, List, length, get_or, take, drop, sum, refl, sym, ap, ◌∙◌, ⊎_elim, arith}
use Rattle.std.specs.List.{All}
use Rattle.std.proofs.lemmas.Bool.{cases_lt}
use Rattle.std.proofs.lemmas.Bool.Decides.{nat_tests}
use Rattle.std.proofs.lemmas.List.Elements.{All-weaker, All-from_get_or}
use Rattle.std.proofs.lemmas.List.Sums.{sum_by-take-drop}
use Rattle.std.proofs.lemmas.Nat.{pow_pos, mul-le}
use Rattle.std.proofs.Math.Nat.{mul-le-mul_left, pow-le-pow_right, pow-suc}
use Rattle.sota_block.specs.Product.{IsBlockLength, sum_below, fold_count}
use Rattle.sota_block.proofs.Sums.{sum_below-same, sum_below-plus, sum_below-list}
use Rattle.sota_block.proofs.Limits.{square_is}

-- a long block has two halves, and each is a block
pub half_is_block : (n : ℕ) → IsBlockLength n → 32 < n → IsBlockLength (n / 2) × (n ≡ n / 2 + n / 2)
half_is_block n (zero, small, power) long = absurd (omega arith)
half_is_block n (suc q, small, power) long =
    let double = pow-suc 2 q in
    ((q, omega arith, omega arith), omega arith)

-- the halves' totals make the whole, and so do the sums' total
pub sum-halves : (h : ℕ) (xs left right : List ℕ) → left ≡ take h xs → right ≡ drop h xs → sum left + sum right ≡ sum xs
sum-halves h xs left right e e' = rw (e, e') (sum_by-take-drop (λ x. x) xs h)

pub sum-sums : (left right into : List ℕ) → length left ≡ length into → length right ≡ length into
    → ((k : ℕ) → k < length into → get_or into k 0 ≡ get_or left k 0 + get_or right k 0) → sum into ≡ sum left + sum right
sum-sums left right into same same' sums =
    let n = length into in
    let at = λ (xs : List ℕ) (k : ℕ). get_or xs k 0 in
    omega (
      arith,
      sum_below-list into,
      sum_below-list left,
      sum_below-list right,
      ap (λ m. sum_below m (at left)) same,
      ap (λ m. sum_below m (at right)) same',
      sum_below-same n (at into) (λ k. at left k + at right k) sums,
      sum_below-plus n (at left) (at right),
    )

-- values whose product with the block's length has a limit: in a half, and in the halves' sums
pub All-halved : (limit n h : ℕ) (xs : List ℕ) → n ≡ h + h → All (λ v. v * n ≤ limit) xs → All (λ v. v * h ≤ limit) xs
All-halved limit n h xs double low =
    All-weaker (λ v. v * n ≤ limit) (λ v. v * h ≤ limit) (λ v few.
    let few' = rw double at few in
    omega arith) xs low

pub All-sums : (limit n h : ℕ) (left right into : List ℕ) → n ≡ h + h → length left ≡ length into → length right ≡ length into
    → All (λ v. v * n ≤ limit) left → All (λ v. v * n ≤ limit) right
    → ((k : ℕ) → k < length into → get_or into k 0 ≡ get_or left k 0 + get_or right k 0) → All (λ v. v * h ≤ limit) into
All-sums limit n h left right into double same same' low low' sums =
    All-from_get_or (λ v. v * h ≤ limit) into 0 (λ k inside.
    let few = rw double at (low k 0 (omega arith)) in
    let few' = rw double at (low' k 0 (omega arith)) in
    rw (sums k inside) (omega arith))

pub All-unscaled : (limit n : ℕ) (xs : List ℕ) → 1 ≤ n → All (λ v. v * n ≤ limit) xs → All (λ v. v ≤ limit) xs
All-unscaled limit n xs some low =
    All-weaker (λ v. v * n ≤ limit) (λ v. v ≤ limit) (λ v few. omega (arith, mul-le-mul_left v some)) xs low

pub All-scaled : (limit n most : ℕ) (xs : List ℕ) → n ≤ most → All (λ v. v ≤ limit) xs → All (λ v. v * n ≤ limit * most) xs
All-scaled limit n most xs short low =
    All-weaker (λ v. v ≤ limit) (λ v. v * n ≤ limit * most) (λ v few. mul-le v n limit most few short) xs low

pub one_at_least : (n : ℕ) → IsBlockLength n → 1 ≤ n
one_at_least n (r, small, power) = omega (arith, pow_pos r)

pub at_most : (n : ℕ) → IsBlockLength n → n ≤ 65536
at_most n (r, small, power) = rw power (pow-le-pow_right {n = 2} (omega arith) {i = r} {j = 16} small)

-- counts: of a plain block, and of a folded one
pub fold_count-plain : (r : ℕ) → r ≤ 5 → fold_count r ≡ 4 ^ r
fold_count-plain zero short = refl
fold_count-plain (suc q) short = grind (arith, nat_tests)

pub fold_count-folded : (q : ℕ) → 5 ≤ q → fold_count (suc q) ≡ 3 * fold_count q
fold_count-folded q long = grind (arith, nat_tests)

exponent-le : (r : ℕ) → 2 ^ r ≤ 32 → r ≤ 5
exponent-le r short =
    ⊎_elim (λ (long : 5 < r). absurd (omega (arith, pow-le-pow_right {n = 2} (omega arith) {i = 6} {j = r} long))) (λ within. within) (cases_lt 5 r)

pub count_plain : (n r : ℕ) → n ≡ 2 ^ r → n ≤ 32 → n * n ≡ fold_count r
count_plain n r power short =
    let power' = rw power at short in
    square_is n r power ∙ sym (fold_count-plain r (exponent-le r power'))

pub count_folded : (n r : ℕ) → n ≡ 2 ^ r → 32 < n → (q : ℕ) × (n / 2 ≡ 2 ^ q) × (fold_count r ≡ 3 * fold_count q)
count_folded n zero power long = absurd (omega arith)
count_folded n (suc q) power long =
    let double = pow-suc 2 q in
    let deep : 5 ≤ q = ⊎_elim (λ (short : q < 5). absurd (omega (arith, pow-le-pow_right {n = 2} (omega arith) {i = suc q} {j = 5} short))) (λ deep. deep) (cases_lt q 5) in
    (q, omega arith, fold_count-folded q deep)
