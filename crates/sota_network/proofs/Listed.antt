-- Lists of the values of a function at 1 to n.
use Rattle.std.proofs.Common.{ℕ, zero, suc, ◌≡◌, ◌≢◌, ◌+◌, ◌-◌, ◌<◌, ◌≤◌, List, [], ◌∷◌, ◌++◌, length, get_or, set, replicate, refl, sym, ◌∙◌, ap, subst, arith, ⊎_elim, length-append, get_or-set_other, get_or-set_same}
use Rattle.std.specs.List.{All}
use Rattle.std.proofs.Math.ListN.{length-set, length-replicate}
use Rattle.std.proofs.lemmas.List.{ext_get_or, get_or_append_left, get_or-append-add, get_or-replicate}
use Rattle.std.proofs.lemmas.Bool.{cases_eq, cases_lt}
use Rattle.sota_network.specs.Numbers.{listed}

pub length-listed : {X : Type 0} (f : ℕ → X) (n : ℕ) → length (listed f n) ≡ n
length-listed f zero = refl
length-listed f (suc n) = length-append (listed f n) (f (suc n) ∷ []) ∙ (let x : length (listed f n) + 1 ≡ suc n = omega (arith, length-listed f n) in x)

-- by the index
pub get_or-listed : {X : Type 0} (f : ℕ → X) (n k : ℕ) (d : X) → k < n → get_or (listed f n) k d ≡ f (suc k)
get_or-listed f zero k d h = absurd (omega arith)
get_or-listed f (suc n) k d h =
    ⊎_elim
    (λ (before : k < n).
    let within : k < length (listed f n) = omega (arith, length-listed f n) in
    get_or_append_left (listed f n) (f (suc n) ∷ []) d k within ∙ get_or-listed f n k d before)
    (λ (last : n ≤ k).
    let same : n ≡ k = omega arith in
    let at : k ≡ length (listed f n) + 0 = omega (arith, length-listed f n) in
    ap (λ (j : ℕ). get_or (listed f n ++ f (suc n) ∷ []) j d) at ∙ get_or-append-add (listed f n) (f (suc n) ∷ []) 0 d ∙ ap (λ (j : ℕ). f (suc j)) same)
    (cases_lt k n)

-- by the number
pub listed-at : {X : Type 0} (f : ℕ → X) (n i : ℕ) (d : X) → 1 ≤ i → i ≤ n → get_or (listed f n) (i - 1) d ≡ f i
listed-at f n i d low high =
    let within : i - 1 < n = omega arith in
    let number : suc (i - 1) ≡ i = omega arith in
    get_or-listed f n (i - 1) d within ∙ ap f number

-- a list of as many items that are the values of f
pub listed-from : {X : Type 0} (xs : List X) (f : ℕ → X) (n : ℕ) (d : X) → length xs ≡ n → ((k : ℕ) → k < n → get_or xs k d ≡ f (suc k)) → xs ≡ listed f n
listed-from xs f n d count agree =
    ext_get_or d xs (listed f n) (count ∙ sym (length-listed f n)) (λ k h.
    let within : k < n = omega arith in
    agree k within ∙ sym (get_or-listed f n k d within))

-- functions that agree at 1 to n
pub listed-agree : {X : Type 0} (f g : ℕ → X) (n : ℕ) → ((i : ℕ) → 1 ≤ i → i ≤ n → f i ≡ g i) → listed f n ≡ listed g n
listed-agree f g zero agree = refl
listed-agree f g (suc n) agree =
    let before : listed f n ≡ listed g n = listed-agree f g n (λ i low high. agree i low (omega arith)) in
    let last : f (suc n) ≡ g (suc n) = agree (suc n) (omega arith) (omega arith) in
    rw (before, last) refl

-- another value at one number
pub set-listed : {X : Type 0} (f g : ℕ → X) (n i : ℕ) (x : X) → 1 ≤ i → i ≤ n → g i ≡ x → ((j : ℕ) → j ≢ i → g j ≡ f j) → set (listed f n) (i - 1) x ≡ listed g n
set-listed f g n i x low high here elsewhere =
    let count : length (set (listed f n) (i - 1) x) ≡ n = length-set (listed f n) (i - 1) x ∙ length-listed f n in
    listed-from (set (listed f n) (i - 1) x) g n x count (λ k within.
    ⊎_elim
    (λ (at : k ≡ i - 1).
    let inside : i - 1 < length (listed f n) = omega (arith, length-listed f n) in
    let number : i ≡ suc k = omega arith in
    ap (λ (j : ℕ). get_or (set (listed f n) (i - 1) x) j x) at ∙ get_or-set_same (listed f n) (i - 1) x x inside ∙ sym here ∙ ap g number)
    (λ (off : k ≡ i - 1 → ⊥).
    let apart : suc k ≢ i = λ e. off (omega arith) in
    get_or-set_other (listed f n) (i - 1) k x x off ∙ get_or-listed f n k x within ∙ sym (elsewhere (suc k) apart))
    (cases_eq k (i - 1)))

pub replicate-listed : {X : Type 0} (x : X) (n : ℕ) → replicate n x ≡ listed (λ i. x) n
replicate-listed x n = listed-from (replicate n x) (λ i. x) n x (length-replicate n x) (λ k h. get_or-replicate n k x x h)

pub All-listed : {X : Type 0} (P : X → Type 0) (f : ℕ → X) (n : ℕ) → ((i : ℕ) → P (f i)) → All P (listed f n)
All-listed P f n holds k d h =
    let within : k < n = omega (arith, length-listed f n) in
    subst P (sym (get_or-listed f n k d within)) (holds (suc k))

-- a list by its items
pub items-listed : {X : Type 0} (xs : List X) (f : ℕ → X) (n : ℕ) (d : X) → length xs ≡ n → ((i : ℕ) → 1 ≤ i → i ≤ n → get_or xs (i - 1) d ≡ f i) → xs ≡ listed f n
items-listed xs f n d long each =
    listed-from xs f n d long (λ k less.
    let at : suc k - 1 ≡ k = omega arith in
    subst (λ (j : ℕ). get_or xs j d ≡ f (suc k)) at (each (suc k) (omega arith) (omega arith)))
