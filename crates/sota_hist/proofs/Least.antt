-- The least number that passes a test.
use Rattle.std.proofs.Common.{ℕ, ◌≡◌, ◌<◌, ◌≤◌, Bool, true, false, cond, min, List, [], ◌∷◌, Option, None, Some, refl, sym, ◌∙◌, ap, subst, arith, inl, inr, ◌⊎◌, ⊎_elim}
use Rattle.std.specs.Option.{option_map_or}
use Rattle.std.specs.List.{filter}
use Rattle.std.proofs.lemmas.Bool.{cases_lt}
use Rattle.sota_hist.specs.Time.{least_of}

-- the number stands in the list
abbrev pub Among : ℕ → List ℕ → Type 0
Among n [] = ⊥
Among n (x ∷ xs) = (x ≡ n) ⊎ Among n xs

-- the option holds the least number that has the property, and nothing where none has it
abbrev pub LeastSuch : (ℕ → Type 0) → Option ℕ → Type 0
LeastSuch P None = (n : ℕ) → P n → ⊥
LeastSuch P (Some m) = P m × ((n : ℕ) → P n → m ≤ n)

pub least_unique : (P : ℕ → Type 0) (r q : Option ℕ) → LeastSuch P r → LeastSuch P q → r ≡ q
least_unique P None None a b = refl
least_unique P None (Some m) a b = absurd (a m b.0)
least_unique P (Some m) None a b = absurd (b m a.0)
least_unique P (Some m) (Some n) a b =
    let below : m ≤ n = a.1 n b.0 in
    let above : n ≤ m = b.1 m a.0 in
    let same : m ≡ n = omega arith in
    ap (λ (k : ℕ). Some k) same

pub least_same : (P Q : ℕ → Type 0) (r : Option ℕ) → ((n : ℕ) → P n → Q n) → ((n : ℕ) → Q n → P n) → LeastSuch P r → LeastSuch Q r
least_same P Q None to from least = λ n q. least n (from n q)
least_same P Q (Some m) to from least = (to m least.0, λ n q. least.1 n (from n q))

-- the property of a number that passes the test and stands in the list
abbrev pub Passes : (ℕ → Bool) → List ℕ → ℕ → Type 0
Passes test xs n = (test n ≡ true) × Among n xs

least_cons : (test : ℕ → Bool) (x : ℕ) (xs : List ℕ) (r : Option ℕ) → test x ≡ true → LeastSuch (Passes test xs) r → LeastSuch (Passes test (x ∷ xs)) (Some (option_map_or (λ y. min x y) r x))
least_cons test x xs None passes least = (
  (passes, inl refl),
  λ n p. ⊎_elim (λ (e : x ≡ n). omega arith) (λ (a : Among n xs). absurd (least n (p.0, a))) p.1,
)
least_cons test x xs (Some m) passes least = (
  ⊎_elim
      (λ (before : x < m). let at : x ≡ min x m = omega arith in subst (Passes test (x ∷ xs)) at (passes, inl refl))
      (λ (after : m ≤ x). let at : m ≡ min x m = omega arith in subst (Passes test (x ∷ xs)) at (least.0.0, inr least.0.1))
      (cases_lt x m),
  λ n p. ⊎_elim (λ (e : x ≡ n). omega arith) (λ (a : Among n xs). let h : m ≤ n = least.1 n (p.0, a) in omega arith) p.1,
)

least_skip : (test : ℕ → Bool) (x : ℕ) (xs : List ℕ) (r : Option ℕ) → test x ≡ false → LeastSuch (Passes test xs) r → LeastSuch (Passes test (x ∷ xs)) r
least_skip test x xs r fails least =
    least_same (Passes test xs) (Passes test (x ∷ xs)) r
    (λ n p. (p.0, inr p.1))
    (λ n p. ⊎_elim (λ (e : x ≡ n). let no : false ≡ true = sym fails ∙ ap test e ∙ p.0 in absurd (cc)) (λ (a : Among n xs). (p.0, a)) p.1)
    least

least_at : (test : ℕ → Bool) (x : ℕ) (xs : List ℕ) (b : Bool) → test x ≡ b → LeastSuch (Passes test xs) (least_of (filter test xs)) → LeastSuch (Passes test (x ∷ xs)) (least_of (cond b (x ∷ filter test xs) (filter test xs)))
least_at test x xs true is rest = least_cons test x xs (least_of (filter test xs)) is rest
least_at test x xs false is rest = least_skip test x xs (least_of (filter test xs)) is rest

-- what the definition gives
pub least_of-filter : (test : ℕ → Bool) (xs : List ℕ) → LeastSuch (Passes test xs) (least_of (filter test xs))
least_of-filter test [] = λ n p. p.1
least_of-filter test (x ∷ xs) = least_at test x xs (test x) refl (least_of-filter test xs)

-- an option that holds the least number with a property is that of the definition
pub least_of_is : (P : ℕ → Type 0) (test : ℕ → Bool) (xs : List ℕ) (r : Option ℕ) → ((n : ℕ) → P n → Passes test xs n) → ((n : ℕ) → Passes test xs n → P n) → LeastSuch P r → r ≡ least_of (filter test xs)
least_of_is P test xs r to from least =
    least_unique P r (least_of (filter test xs)) least (least_same (Passes test xs) P (least_of (filter test xs)) from to (least_of-filter test xs))
