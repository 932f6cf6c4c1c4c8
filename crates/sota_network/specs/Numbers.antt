-- The items of a list by their numbers, as arcs are numbered.
use Rattle.std.specs.Prelude.{ℕ, zero, suc, Bool, List, [], ◌∷◌, ◌++◌, Option, None, Some}
use Rattle.std.specs.Prelude.{if◌then◌else◌}

-- the numbers of the items that pass, rising, where the first item has the number n
abbrev pub numbers : {X : Type 0} → (X → Bool) → ℕ → List X → List ℕ
numbers test n [] = []
numbers test n (x ∷ xs) = if test x then n ∷ numbers test (suc n) xs else numbers test (suc n) xs

-- the least of these numbers
abbrev pub first_number : {X : Type 0} → (X → Bool) → ℕ → List X → Option ℕ
first_number test n [] = None
first_number test n (x ∷ xs) = if test x then Some n else first_number test (suc n) xs

-- the values of f at 1 to n
abbrev pub listed : {X : Type 0} → (ℕ → X) → ℕ → List X
listed f zero = []
listed f (suc n) = listed f n ++ f (suc n) ∷ []
