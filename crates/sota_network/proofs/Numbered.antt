-- The numbers of the items that pass a test.
use Rattle.std.proofs.Common.{ℕ, zero, suc, ◌≡◌, ◌+◌, ◌<◌, ◌≤◌, Bool, true, false, List, [], ◌∷◌, length, get_or, slice_get, Some, refl, ◌∙◌, ap, subst, arith, ⊎_elim}
use Rattle.std.specs.List.{All, Contains}
use Rattle.std.proofs.lemmas.Bool.{cases_Bool}
use Rattle.std.proofs.lemmas.Option.{none-some, slice_get_within}
use Rattle.std.proofs.lemmas.List.Elements.{All-nil, All-cons, All-weaker, Contains-append_left, Contains-append_right, Contains-push}
use Rattle.std.proofs.lemmas.List.Sums.{count_by-le-length}
use Rattle.sota_network.specs.Network.{Net, arc_at}
use Rattle.sota_network.specs.Numbers.{numbers}
use Rattle.sota_network.specs.declared.network.Arc.{Arc}
use Rattle.sota_network.proofs.Grouped.{length-numbers}

-- the number e, counted from n, is that of an item that passes
pub record IsNumber {X : Type 0} (test : X → Bool) (n : ℕ) (xs : List X) (e : ℕ) : Type 0 where
  pub place : ℕ
  pub item : X
  pub at : e ≡ n + place
  pub is : slice_get xs place ≡ Some item
  pub passes : test item ≡ true

later : {X : Type 0} (test : X → Bool) (n : ℕ) (x : X) (xs : List X) (e : ℕ) → IsNumber test (suc n) xs e → IsNumber test n (x ∷ xs) e
later test n x xs e is =
    record { place = suc is.place; item = is.item; at = (let at : e ≡ n + suc is.place = omega (arith, is.at) in at); is = is.is; passes = is.passes }

first : {X : Type 0} (test : X → Bool) (n : ℕ) (x : X) (xs : List X) → test x ≡ true → IsNumber test n (x ∷ xs) n
first test n x xs pass = record { place = zero; item = x; at = (let at : n ≡ n + 0 = omega arith in at); is = refl; passes = pass }

pub numbers-all : {X : Type 0} (test : X → Bool) (n : ℕ) (xs : List X) → All (IsNumber test n xs) (numbers test n xs)
numbers-all test n [] = All-nil (IsNumber test n [])
numbers-all test n (x ∷ xs) =
    let more : All (IsNumber test n (x ∷ xs)) (numbers test (suc n) xs) = λ k d h. later test n x xs (get_or (numbers test (suc n) xs) k d) (numbers-all test (suc n) xs k d h) in
    ⊎_elim
    (λ (yes : test x ≡ true). rw yes (All-cons (IsNumber test n (x ∷ xs)) n (numbers test (suc n) xs) (first test n x xs yes) more))
    (λ (no : test x ≡ false). rw no more)
    (cases_Bool (test x))

pub numbers-has : {X : Type 0} (test : X → Bool) (n : ℕ) (xs : List X) (k : ℕ) (x : X) → slice_get xs k ≡ Some x → test x ≡ true → Contains (numbers test n xs) (n + k)
numbers-has test n [] k x is pass = absurd (none-some x is)
numbers-has test n (y ∷ ys) zero x is pass =
    let same : y ≡ x = cc in
    let passes : test y ≡ true = ap test same ∙ pass in
    let at : n ≡ n + 0 = omega arith in
    rw passes (subst (λ (e : ℕ). Contains (n ∷ numbers test (suc n) ys) e) at (Contains-append_left (n ∷ []) (numbers test (suc n) ys) n (Contains-push [] n)))
numbers-has test n (y ∷ ys) (suc k) x is pass =
    let at : suc n + k ≡ n + suc k = omega arith in
    let more : Contains (numbers test (suc n) ys) (n + suc k) = subst (λ (e : ℕ). Contains (numbers test (suc n) ys) e) at (numbers-has test (suc n) ys k x is pass) in
    ⊎_elim (λ (passes : test y ≡ true). rw passes (Contains-append_right (n ∷ []) (numbers test (suc n) ys) (n + suc k) more)) (λ (fails : test y ≡ false). rw fails more) (cases_Bool (test y))

-- ---- the numbers of arcs
module _ (net : Net) (test : Arc → Bool) where
  pub numbers-only : All (λ (e : ℕ). (arc : Arc) × (arc_at net e ≡ Some arc) × (test arc ≡ true)) (numbers test 1 net.arcs)
  numbers-only =
      All-weaker (IsNumber test 1 net.arcs) (λ (e : ℕ). (arc : Arc) × (arc_at net e ≡ Some arc) × (test arc ≡ true))
      (λ e is. let number : e ≡ suc is.place = omega (arith, is.at) in (is.item, rw number is.is, is.passes))
      (numbers test 1 net.arcs) (numbers-all test 1 net.arcs)

  pub numbers-within : All (λ (e : ℕ). (1 ≤ e) × (e ≤ length net.arcs)) (numbers test 1 net.arcs)
  numbers-within =
      All-weaker (IsNumber test 1 net.arcs) (λ (e : ℕ). (1 ≤ e) × (e ≤ length net.arcs))
      (λ e is. let inside : is.place < length net.arcs = slice_get_within net.arcs is.place is.item is.is in (omega (arith, is.at), omega (arith, is.at)))
      (numbers test 1 net.arcs) (numbers-all test 1 net.arcs)

  pub numbers-every : (e : ℕ) (arc : Arc) → arc_at net e ≡ Some arc → test arc ≡ true → Contains (numbers test 1 net.arcs) e
  numbers-every zero arc is pass = absurd (none-some arc is)
  numbers-every (suc k) arc is pass =
      let at : 1 + k ≡ suc k = omega arith in
      subst (λ (e : ℕ). Contains (numbers test 1 net.arcs) e) at (numbers-has test 1 net.arcs k arc is pass)

  pub numbers-few : length (numbers test 1 net.arcs) ≤ length net.arcs
  numbers-few = omega (arith, length-numbers test 1 net.arcs, count_by-le-length test net.arcs)
