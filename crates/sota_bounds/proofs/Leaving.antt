-- Sums over arcs, node by node.
use Rattle.std.proofs.Common.{ℕ, suc, ◌≡◌, ◌+◌, ◌*◌, ◌<◌, ◌≤◌, ◌==◌, nat_le, nat_lt, Bool, true, false, if◌then◌else◌, List, [], ◌∷◌, length, slice_get, Option, None, Some, refl, sym, ◌∙◌, ap, arith, ⊎_elim}
use Rattle.std.specs.List.{All, sum_by}
use Rattle.std.proofs.lemmas.Bool.{cases_lt, cases_eq, eq-eqb, ne_eqb, le-leb, lt-leb}
use Rattle.std.proofs.lemmas.List.Sums.{sum_by-cons}
use Rattle.std.proofs.lemmas.List.Elements.{All-head, All-tail}
use Rattle.sota_network.specs.Network.{Net, IsNet, IsArc, arc_at}
use Rattle.sota_network.specs.Numbers.{numbers}
use Rattle.sota_network.specs.Region.{broad_at}
use Rattle.sota_network.specs.declared.network.Arc.{Arc}
use Rattle.sota_bounds.specs.Cells.{pairs_by_lists, broad_cells_by_lists, broad_cells_at}

-- ---- the items that pass, by their numbers
picked : (h : ℕ → ℕ) (n : ℕ) (rest : List ℕ) (b : Bool) → sum_by h (if b then n ∷ rest else rest) ≡ (if b then h n else 0) + sum_by h rest
picked h n rest true = sum_by-cons h n rest
picked h n rest false = omega arith

sum-numbered : {X : Type 0} (test : X → Bool) (f : X → ℕ) (h : ℕ → ℕ) (n : ℕ) (xs : List X) → ((k : ℕ) (x : X) → slice_get xs k ≡ Some x → h (n + k) ≡ f x)
    → sum_by h (numbers test n xs) ≡ sum_by (λ x. if test x then f x else 0) xs
sum-numbered test f h n [] at = refl
sum-numbered {X} test f h n (x ∷ xs) at =
    let first : h n ≡ f x = let e : n ≡ n + 0 = omega arith in ap h e ∙ at 0 x refl in
    let later : sum_by h (numbers test (suc n) xs) ≡ sum_by (λ (y : X). if test y then f y else 0) xs =
    sum-numbered test f h (suc n) xs (λ k y is. let e : suc n + k ≡ n + suc k = omega arith in ap h e ∙ at (suc k) y is) in
    picked h n (numbers test (suc n) xs) (test x)
    ∙ ap (λ (m : ℕ). (if test x then m else 0) + sum_by h (numbers test (suc n) xs)) first
    ∙ ap (λ (m : ℕ). (if test x then f x else 0) + m) later
    ∙ sym (sum_by-cons (λ (y : X). if test y then f y else 0) x xs)

-- what the arc of a number adds
abbrev pub broad_if : ℕ → ℕ → Option Arc → ℕ
broad_if budget pairs None = 0
broad_if budget pairs (Some arc) = broad_at budget pairs arc

pub sum-leaving : (net : Net) (budget pairs i : ℕ)
    → sum_by (λ e. broad_if budget pairs (arc_at net e)) (numbers (λ (arc : Arc). arc.tail == i) 1 net.arcs) ≡ broad_cells_at budget pairs i net.arcs
sum-leaving net budget pairs i =
    sum-numbered (λ (arc : Arc). arc.tail == i) (broad_at budget pairs) (λ e. broad_if budget pairs (arc_at net e)) 1 net.arcs
    (λ k arc is. let e : 1 + k ≡ suc k = omega arith in ap (λ (j : ℕ). broad_if budget pairs (arc_at net j)) e ∙ ap (broad_if budget pairs) is)

-- where the node has no pair
none-at : (b : Bool) (budget : ℕ) (arc : Arc) → (if b then broad_at budget 0 arc else 0) ≡ 0
none-at true budget arc = refl
none-at false budget arc = refl

pub no-pairs : (budget i : ℕ) (arcs : List Arc) → broad_cells_at budget 0 i arcs ≡ 0
no-pairs budget i [] = refl
no-pairs budget i (arc ∷ arcs) =
    sum_by-cons (λ (a : Arc). if a.tail == i then broad_at budget 0 a else 0) arc arcs
    ∙ (let one = none-at (arc.tail == i) budget arc in let more = no-pairs budget i arcs in omega (arith, one, more))

-- ---- the arcs that leave the nodes up to one
split : (m k v w : ℕ) → (m ≡ k + 1 → v ≡ w) → (if nat_le m (k + 1) then v else 0) ≡ (if nat_le m k then v else 0) + (if m == k + 1 then w else 0)
split m k v w same =
    ⊎_elim
    (λ (above : k < m).
    ⊎_elim
    (λ (here : m ≡ k + 1). rw (le-leb m (k + 1) (omega (arith, here)), lt-leb m k above, eq-eqb m (k + 1) here) (omega (arith, same here)))
    (λ (apart : m ≡ k + 1 → ⊥). rw (lt-leb m (k + 1) (omega (arith, above, apart)), lt-leb m k above, ne_eqb m (k + 1) apart) (omega arith))
    (cases_eq m (k + 1)))
    (λ (low : m ≤ k).
    let apart : m ≡ k + 1 → ⊥ = λ e. omega (arith, low, e) in
    rw (le-leb m (k + 1) (omega (arith, low)), le-leb m k low, ne_eqb m (k + 1) apart) (omega arith))
    (cases_lt k m)

module _ (budget : ℕ) (least : List (Option ℕ)) (needs : List ℕ) where
  abbrev broad : Arc → ℕ
  broad arc = broad_at budget (pairs_by_lists least needs arc.tail) arc

  -- what the arcs add that leave nodes up to k
  abbrev pub broad_up_to : ℕ → List Arc → ℕ
  broad_up_to k arcs = sum_by (λ arc. if nat_le arc.tail k then broad arc else 0) arcs

  pub up-to-none : (arcs : List Arc) → All (λ (arc : Arc). 1 ≤ arc.tail) arcs → broad_up_to 0 arcs ≡ 0
  up-to-none [] low = omega arith
  up-to-none (arc ∷ arcs) low =
      let first : 1 ≤ arc.tail = All-head (λ (a : Arc). 1 ≤ a.tail) arc arcs low in
      let one : (if nat_le arc.tail 0 then broad arc else 0) ≡ 0 = rw (lt-leb arc.tail 0 (omega (arith, first))) refl in
      let more : broad_up_to 0 arcs ≡ 0 = up-to-none arcs (All-tail (λ (a : Arc). 1 ≤ a.tail) arc arcs low) in
      sum_by-cons (λ (a : Arc). if nat_le a.tail 0 then broad a else 0) arc arcs ∙ omega (arith, one, more)

  pub up-to-more : (k : ℕ) (arcs : List Arc) → broad_up_to (k + 1) arcs ≡ broad_up_to k arcs + broad_cells_at budget (pairs_by_lists least needs (k + 1)) (k + 1) arcs
  up-to-more k [] = omega arith
  up-to-more k (arc ∷ arcs) =
      let pairs : ℕ = pairs_by_lists least needs (k + 1) in
      let one : (if nat_le arc.tail (k + 1) then broad arc else 0) ≡ (if nat_le arc.tail k then broad arc else 0) + (if arc.tail == k + 1 then broad_at budget pairs arc else 0) =
      split arc.tail k (broad arc) (broad_at budget pairs arc) (λ e. ap (λ (i : ℕ). broad_at budget (pairs_by_lists least needs i) arc) e) in
      omega (
        arith,
        one,
        up-to-more k arcs,
        sum_by-cons (λ (a : Arc). if nat_le a.tail (k + 1) then broad a else 0) arc arcs,
        sum_by-cons (λ (a : Arc). if nat_le a.tail k then broad a else 0) arc arcs,
        sum_by-cons (λ (a : Arc). if a.tail == k + 1 then broad_at budget pairs a else 0) arc arcs,
      )

  pub up-to-all : (n : ℕ) (arcs : List Arc) → All (λ (arc : Arc). arc.tail ≤ n) arcs → broad_up_to n arcs ≡ broad_cells_by_lists budget least needs arcs
  up-to-all n [] high = omega arith
  up-to-all n (arc ∷ arcs) high =
      let first : arc.tail ≤ n = All-head (λ (a : Arc). a.tail ≤ n) arc arcs high in
      let one : (if nat_le arc.tail n then broad arc else 0) ≡ broad arc = rw (le-leb arc.tail n first) refl in
      let more : broad_up_to n arcs ≡ broad_cells_by_lists budget least needs arcs = up-to-all n arcs (All-tail (λ (a : Arc). a.tail ≤ n) arc arcs high) in
      omega (
        arith,
        one,
        more,
        sum_by-cons (λ (a : Arc). if nat_le a.tail n then broad a else 0) arc arcs,
        sum_by-cons (λ (a : Arc). broad_at budget (pairs_by_lists least needs a.tail) a) arc arcs,
      )
