-- The first number of a range at which values are at least c.
use Rattle.std.proofs.Common.{ℕ, zero, suc, ◌≡◌, ◌+◌, ◌<◌, ◌≤◌, nat_le, None, Some, refl, ap, arith, ⊎_elim}
use Rattle.std.specs.List.{find, range_with_len}
use Rattle.std.proofs.lemmas.Bool.{cases_lt, cases_eq, le-leb, lt-leb}

-- the first, by what holds of it
pub first-is : (v : ℕ → ℕ) (c a n b : ℕ) → a ≤ b → b < a + n → c ≤ v b → ((t : ℕ) → a ≤ t → t < b → v t < c) → find (λ t. nat_le c (v t)) (range_with_len a n) ≡ Some b
first-is v c a zero b low high there none = absurd (omega arith)
first-is v c a (suc n) b low high there none =
    ⊎_elim
    (λ (here : a ≡ b).
    let same : c ≤ v a = omega (arith, there, ap v here) in
    rw (le-leb c (v a) same) (ap Some here))
    (λ (later : a ≡ b → ⊥).
    let no : v a < c = none a (omega arith) (omega arith) in
    rw (lt-leb c (v a) no) (first-is v c (a + 1) n b (omega arith) (omega arith) there (λ t up down. none t (omega arith) down)))
    (cases_eq a b)

pub none-is : (v : ℕ → ℕ) (c a n : ℕ) → ((t : ℕ) → a ≤ t → t < a + n → v t < c) → find (λ t. nat_le c (v t)) (range_with_len a n) ≡ None
none-is v c a zero none = refl
none-is v c a (suc n) none =
    rw (lt-leb c (v a) (none a (omega arith) (omega arith))) (none-is v c (a + 1) n (λ t up down. none t (omega arith) (omega arith)))

-- what holds of the least budget
pub record IsFirst (v : ℕ → ℕ) (c a n b : ℕ) : Type 0 where
  pub low : a ≤ b
  pub high : b < a + n
  pub there : c ≤ v b
  pub before : (t : ℕ) → a ≤ t → t < b → v t < c

pub is-first : (v : ℕ → ℕ) (c a n b : ℕ) → find (λ t. nat_le c (v t)) (range_with_len a n) ≡ Some b → IsFirst v c a n b
is-first v c a zero b is = absurd (cc)
is-first v c a (suc n) b is =
    ⊎_elim
    (λ (less : v a < c).
    let rest : IsFirst v c (a + 1) n b = is-first v c (a + 1) n b (rw (lt-leb c (v a) less) at is) in
    record {
      low = omega (arith, rest.low);
      high = omega (arith, rest.high);
      there = rest.there;
      before = λ t up down.
          ⊎_elim
          (λ (here : t ≡ a). omega (arith, less, ap v here))
          (λ (off : t ≡ a → ⊥). rest.before t (omega arith) down)
          (cases_eq t a);
    })
    (λ (enough : c ≤ v a).
    let found : Some a ≡ Some b = (rw (le-leb c (v a) enough) at is) in
    let here : a ≡ b = cc in
    record {
      low = omega arith;
      high = omega arith;
      there = omega (arith, enough, ap v here);
      before = λ t up down. absurd (omega arith);
    })
    (cases_lt (v a) c)

pub is-none : (v : ℕ → ℕ) (c a n : ℕ) → find (λ t. nat_le c (v t)) (range_with_len a n) ≡ None → (t : ℕ) → a ≤ t → t < a + n → v t < c
is-none v c a zero is t low high = absurd (omega arith)
is-none v c a (suc n) is t low high =
    ⊎_elim
    (λ (less : v a < c).
    ⊎_elim
    (λ (here : t ≡ a). omega (arith, less, ap v here))
    (λ (off : t ≡ a → ⊥). is-none v c (a + 1) n (rw (lt-leb c (v a) less) at is) t (omega arith) (omega arith))
    (cases_eq t a))
    (λ (enough : c ≤ v a).
    let found : Some a ≡ None = (rw (le-leb c (v a) enough) at is) in
    absurd (cc))
    (cases_lt (v a) c)

-- values that are the same up to the last have the same first
pub first-same : (v w : ℕ → ℕ) (c a n : ℕ) → ((t : ℕ) → a ≤ t → t < a + n → v t ≡ w t) → find (λ t. nat_le c (v t)) (range_with_len a n) ≡ find (λ t. nat_le c (w t)) (range_with_len a n)
first-same v w c a zero same = refl
first-same v w c a (suc n) same =
    let rest = first-same v w c (a + 1) n (λ t up down. same t (omega arith) (omega arith)) in
    rw (same a (omega arith) (omega arith), rest) refl
