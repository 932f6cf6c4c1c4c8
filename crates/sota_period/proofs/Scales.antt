-- The first item that passes a test.
use Rattle.std.proofs.Common.{ℕ, zero, suc, ◌≡◌, ◌+◌, ◌<◌, ◌≤◌, ◌==◌, not, Bool, true, false, List, [], ◌∷◌, length, get_or, None, Some, refl, sym, ◌∙◌, ap, arith, ⊎_elim}
use Rattle.std.proofs.lemmas.Bool.{eq-eqb, ne_eqb, cases_eq, true≢false}
use Rattle.sota_network.specs.Network.{Net}
use Rattle.sota_network.specs.Numbers.{first_number}
use Rattle.sota_period.specs.Periods.{first_net}

pub first-found : {X : Type 0} (test : X → Bool) (n k at : ℕ) (x : X) (xs : List X) → at ≡ n + k → k < length xs → x ≡ get_or xs k x → test x ≡ true
    → ((m : ℕ) (d : X) → m < k → test (get_or xs m d) ≡ false) → Some at ≡ first_number test n xs
first-found test n k at x [] place within is passes before = absurd (omega arith)
first-found test n zero at x (y ∷ ys) place within is passes before =
    let here : test y ≡ true = ap test (sym is) ∙ passes in
    let same : at ≡ n = omega arith in
    rw here (ap (λ (m : ℕ). Some m) same)
first-found test n (suc k) at x (y ∷ ys) place within is passes before =
    let no : test y ≡ false = before 0 y (omega arith) in
    let same : at ≡ suc n + k = omega arith in
    rw no (first-found test (suc n) k at x ys same (omega arith) is passes (λ m d h. before (suc m) d (omega arith)))

pub first-missed : {X : Type 0} (test : X → Bool) (n : ℕ) (xs : List X) → ((m : ℕ) (d : X) → m < length xs → test (get_or xs m d) ≡ false)
    → None ≡ first_number test n xs
first-missed test n [] fails = refl
first-missed test n (x ∷ xs) fails =
    let no : test x ≡ false = fails 0 x (omega arith) in
    rw no (first-missed test (suc n) xs (λ m d h. fails (suc m) d (omega arith)))

pub first-is : (periods : List (ℕ × Net)) (p : ℕ × Net) → 1 ≤ length periods → p ≡ get_or periods 0 p → p.1 ≡ first_net periods
first-is [] p some is = absurd (omega arith)
first-is (q ∷ qs) p some is = ap (λ (r : ℕ × Net). r.1) is

pub same-passes : (a b : ℕ) → a ≡ b → not (a == b) ≡ false
same-passes a b h = rw (eq-eqb a b h) refl

pub other-passes : (a b : ℕ) → (a ≡ b → ⊥) → not (a == b) ≡ true
other-passes a b h = rw (ne_eqb a b h) refl

pub ne-apart : (a b : ℕ) → not (a == b) ≡ true → a ≡ b → ⊥
ne-apart a b is same = true≢false (sym is ∙ same-passes a b same)

pub ne-same : (a b : ℕ) → not (a == b) ≡ false → a ≡ b
ne-same a b is =
    ⊎_elim
    (λ (same : a ≡ b). same)
    (λ (off : a ≡ b → ⊥). absurd (true≢false (sym (other-passes a b off) ∙ is)))
    (cases_eq a b)
