-- The greatest worth among the arcs that leave a node, and the first arc that has it.
use Rattle.std.proofs.Common.{ℕ, zero, suc, ◌≡◌, ◌+◌, ◌<◌, ◌≤◌, max, Bool, true, List, [], ◌∷◌, ◌++◌, length, Some, slice_get, refl, sym, ◌∙◌, ap, arith, ⊎_elim, ◌==◌, ◌&&◌}
use Rattle.std.specs.List.{All}
use Rattle.std.proofs.lemmas.List.Elements.{All-head, All-tail, All-weaker}
use Rattle.std.proofs.lemmas.Bool.{eq-eqb, ne_eqb, cases_eq, cases_lt, cases_Bool, and_from, and_left, and_right}
use Rattle.sota_network.specs.Network.{Net, arc_at}
use Rattle.sota_network.specs.Numbers.{first_number}
use Rattle.sota_network.specs.Grid.{best_of, choice_of}
use Rattle.sota_network.specs.declared.network.Arc.{Arc}

-- an arc that leaves the node, and one that does not
pub best-in : (i : ℕ) (P : Arc → ℕ) (a : Arc) (rest : List Arc) → a.tail ≡ i → best_of (a ∷ rest) P i ≡ max (P a) (best_of rest P i)
best-in i P a rest h = rw (eq-eqb a.tail i h) refl

pub best-out : (i : ℕ) (P : Arc → ℕ) (a : Arc) (rest : List Arc) → (a.tail ≡ i → ⊥) → best_of (a ∷ rest) P i ≡ best_of rest P i
best-out i P a rest h = rw (ne_eqb a.tail i h) refl

-- worths that are larger by at most g at node i have a greatest that is larger by at most g
pub best-le : (P R : Arc → ℕ) (g i : ℕ) (arcs : List Arc) → All (λ a. a.tail ≡ i → P a ≤ R a + g) arcs → best_of arcs P i ≤ best_of arcs R i + g
best-le P R g i [] h = omega arith
best-le P R g i (a ∷ rest) h =
    let more : best_of rest P i ≤ best_of rest R i + g = best-le P R g i rest (All-tail (λ a. a.tail ≡ i → P a ≤ R a + g) a rest h) in
    ⊎_elim
    (λ e.
    let one : P a ≤ R a + g = All-head (λ a. a.tail ≡ i → P a ≤ R a + g) a rest h e in
    rw (best-in i P a rest e, best-in i R a rest e) (omega arith))
    (λ ne. rw (best-out i P a rest ne, best-out i R a rest ne) more)
    (cases_eq a.tail i)

pub best-agree : (P R : Arc → ℕ) (i : ℕ) (arcs : List Arc) → All (λ a. a.tail ≡ i → P a ≡ R a) arcs → best_of arcs P i ≡ best_of arcs R i
best-agree P R i arcs same =
    let up : best_of arcs P i ≤ best_of arcs R i + 0 =
    best-le P R 0 i arcs (All-weaker (λ a. a.tail ≡ i → P a ≡ R a) (λ a. a.tail ≡ i → P a ≤ R a + 0) (λ a e t. omega (arith, e t)) arcs same) in
    let down : best_of arcs R i ≤ best_of arcs P i + 0 =
    best-le R P 0 i arcs (All-weaker (λ a. a.tail ≡ i → P a ≡ R a) (λ a. a.tail ≡ i → R a ≤ P a + 0) (λ a e t. omega (arith, e t)) arcs same) in
    omega arith

pub best-bound : (P : Arc → ℕ) (m i : ℕ) (arcs : List Arc) → All (λ a. P a ≤ m) arcs → best_of arcs P i ≤ m
best-bound P m i [] h = omega arith
best-bound P m i (a ∷ rest) h =
    let one : P a ≤ m = All-head (λ a. P a ≤ m) a rest h in
    let more : best_of rest P i ≤ m = best-bound P m i rest (All-tail (λ a. P a ≤ m) a rest h) in
    ⊎_elim
    (λ e. rw (best-in i P a rest e) (omega arith))
    (λ ne. rw (best-out i P a rest ne) more)
    (cases_eq a.tail i)

best-append : (P : Arc → ℕ) (i : ℕ) (xs ys : List Arc) → best_of (xs ++ ys) P i ≡ max (best_of xs P i) (best_of ys P i)
best-append P i [] ys = omega arith
best-append P i (x ∷ xs) ys =
    let more : best_of (xs ++ ys) P i ≡ max (best_of xs P i) (best_of ys P i) = best-append P i xs ys in
    ⊎_elim
    (λ e. rw (best-in i P x xs e, best-in i P x (xs ++ ys) e) (omega arith))
    (λ ne. rw (best-out i P x xs ne, best-out i P x (xs ++ ys) ne) more)
    (cases_eq x.tail i)

-- one arc more
pub best-push_in : (P : Arc → ℕ) (i : ℕ) (xs : List Arc) (a : Arc) → a.tail ≡ i → best_of (xs ++ a ∷ []) P i ≡ max (best_of xs P i) (P a)
best-push_in P i xs a h =
    let new : best_of (a ∷ []) P i ≡ max (P a) 0 = best-in i P a [] h in
    best-append P i xs (a ∷ []) ∙ omega arith

pub best-push_out : (P : Arc → ℕ) (i : ℕ) (xs : List Arc) (a : Arc) → (a.tail ≡ i → ⊥) → best_of (xs ++ a ∷ []) P i ≡ best_of xs P i
best-push_out P i xs a h =
    let new : best_of (a ∷ []) P i ≡ 0 = best-out i P a [] h in
    best-append P i xs (a ∷ []) ∙ omega arith

-- an arc that leaves the node has at most the greatest
best-has : (P : Arc → ℕ) (i k : ℕ) (a : Arc) (arcs : List Arc) → slice_get arcs k ≡ Some a → a.tail ≡ i → P a ≤ best_of arcs P i
best-has P i k a [] e t = cc
best-has P i zero a (b ∷ rest) e t =
    let same : b ≡ a = cc in
    let le : P b ≤ best_of (b ∷ rest) P i = rw (best-in i P b rest (rw same t)) (omega arith) in
    let number : P b ≡ P a = ap P same in
    omega arith
best-has P i (suc k) a (b ∷ rest) e t =
    let more : P a ≤ best_of rest P i = best-has P i k a rest e t in
    ⊎_elim
    (λ h. rw (best-in i P b rest h) (omega arith))
    (λ ne. rw (best-out i P b rest ne) more)
    (cases_eq b.tail i)

pub best-has_number : (net : Net) (P : Arc → ℕ) (i e : ℕ) (a : Arc) → arc_at net e ≡ Some a → a.tail ≡ i → P a ≤ best_of net.arcs P i
best-has_number net P i zero a is tail = cc
best-has_number net P i (suc k) a is tail = best-has P i k a net.arcs is tail

-- a positive greatest is that of an arc that leaves the node
pub best-attained : (P : Arc → ℕ) (i : ℕ) (arcs : List Arc) → 0 < best_of arcs P i → (k : ℕ) × (a : Arc) × (slice_get arcs k ≡ Some a) × (a.tail ≡ i) × (P a ≡ best_of arcs P i)
best-attained P i [] h = absurd (omega arith)
best-attained P i (a ∷ rest) h =
    ⊎_elim
    (λ e.
    let is : best_of (a ∷ rest) P i ≡ max (P a) (best_of rest P i) = best-in i P a rest e in
    ⊎_elim
    (λ less.
    let same : best_of (a ∷ rest) P i ≡ best_of rest P i = omega arith in
    let more = best-attained P i rest (omega arith) in
    (suc more.0, more.1, more.2, more.3, more.4 ∙ sym same))
    (λ least. (0, a, refl, e, omega arith))
    (cases_lt (P a) (best_of rest P i)))
    (λ ne.
    let same : best_of (a ∷ rest) P i ≡ best_of rest P i = best-out i P a rest ne in
    let more = best-attained P i rest (omega arith) in
    (suc more.0, more.1, more.2, more.3, more.4 ∙ sym same))
    (cases_eq a.tail i)

-- where an arc passes, the first number is that of an arc that passes
pub first-finds : (test : Arc → Bool) (n k : ℕ) (a : Arc) (arcs : List Arc) → slice_get arcs k ≡ Some a → test a ≡ true
    → (j : ℕ) × (b : Arc) × (first_number test n arcs ≡ Some (n + j)) × (slice_get arcs j ≡ Some b) × (test b ≡ true)
first-finds test n k a [] e h = cc
first-finds test n zero a (b ∷ rest) e h =
    let same : test b ≡ true = ap test (let x : b ≡ a = cc in x) ∙ h in
    let here : Some n ≡ Some (n + 0) = ap Some (let x : n ≡ n + 0 = omega arith in x) in
    (0, b, rw same here, refl, same)
first-finds test n (suc k) a (b ∷ rest) e h =
    ⊎_elim
    (λ yes.
    let here : Some n ≡ Some (n + 0) = ap Some (let x : n ≡ n + 0 = omega arith in x) in
    (0, b, rw yes here, refl, yes))
    (λ no.
    let more = first-finds test (suc n) k a rest e h in
    let shift : Some (suc n + more.0) ≡ Some (n + suc more.0) = ap Some (let x : suc n + more.0 ≡ n + suc more.0 = omega arith in x) in
    (suc more.0, more.1, rw no (more.2 ∙ shift), more.3, more.4))
    (cases_Bool (test b))

first-append : (test : Arc → Bool) (n e : ℕ) (xs ys : List Arc) → first_number test n xs ≡ Some e → first_number test n (xs ++ ys) ≡ Some e
first-append test n e [] ys h = cc
first-append test n e (x ∷ xs) ys h =
    ⊎_elim
    (λ yes. rw yes (rw yes at h))
    (λ no. rw no (first-append test (suc n) e xs ys (rw no at h)))
    (cases_Bool (test x))

-- an arc that leaves node i and has more than all before it
first-new : (P : Arc → ℕ) (i m n : ℕ) (xs : List Arc) (a : Arc) → best_of xs P i < m → a.tail ≡ i → P a ≡ m
    → first_number (λ b. (b.tail == i) && (P b == m)) n (xs ++ a ∷ []) ≡ Some (n + length xs)
first-new P i m n [] a h tail is =
    rw (and_from (a.tail == i) (P a == m) (eq-eqb a.tail i tail) (eq-eqb (P a) m is)) (ap Some (let x : n ≡ n + 0 = omega arith in x))
first-new P i m n (x ∷ xs) a h tail is =
    let shift : suc n + length xs ≡ n + suc (length xs) = omega arith in
    ⊎_elim
    (λ e.
    let is-max : best_of (x ∷ xs) P i ≡ max (P x) (best_of xs P i) = best-in i P x xs e in
    let less : best_of xs P i < m = omega arith in
    let not-it : P x ≡ m → ⊥ = λ z. omega arith in
    rw (and_right (x.tail == i) (P x == m) (ne_eqb (P x) m not-it)) (first-new P i m (suc n) xs a less tail is ∙ ap Some shift))
    (λ ne.
    let same : best_of (x ∷ xs) P i ≡ best_of xs P i = best-out i P x xs ne in
    let less : best_of xs P i < m = omega arith in
    rw (and_left (x.tail == i) (P x == m) (ne_eqb x.tail i ne)) (first-new P i m (suc n) xs a less tail is ∙ ap Some shift))
    (cases_eq x.tail i)

-- where the greatest stays, the choice stays
pub choice-push_same : (P : Arc → ℕ) (i : ℕ) (xs : List Arc) (a : Arc) → best_of (xs ++ a ∷ []) P i ≡ best_of xs P i → choice_of (xs ++ a ∷ []) P i ≡ choice_of xs P i
choice-push_same P i xs a same =
    ⊎_elim
    (λ (positive : 0 < best_of xs P i).
    let found = best-attained P i xs positive in
    let test : Arc → Bool = λ b. (b.tail == i) && (P b == best_of xs P i) in
    let passes : test found.1 ≡ true = and_from (found.1.tail == i) (P found.1 == best_of xs P i) (eq-eqb found.1.tail i found.3) (eq-eqb (P found.1) (best_of xs P i) found.4) in
    let first = first-finds test 1 found.0 found.1 xs found.2 passes in
    let ne : best_of xs P i ≡ 0 → ⊥ = λ z. omega arith in
    rw (same, ne_eqb (best_of xs P i) 0 ne) (first-append test 1 (1 + first.0) xs (a ∷ []) first.2 ∙ sym first.2))
    (λ (none : best_of xs P i ≤ 0).
    let nothing : best_of xs P i ≡ 0 = omega arith in
    rw (same, nothing) refl)
    (cases_lt 0 (best_of xs P i))

-- where it grows, the choice is the new arc
pub choice-push_new : (P : Arc → ℕ) (i : ℕ) (xs : List Arc) (a : Arc) → a.tail ≡ i → best_of xs P i < P a → choice_of (xs ++ a ∷ []) P i ≡ Some (1 + length xs)
choice-push_new P i xs a tail more =
    let is : best_of (xs ++ a ∷ []) P i ≡ P a = best-push_in P i xs a tail ∙ omega arith in
    let ne : P a ≡ 0 → ⊥ = λ z. omega arith in
    rw (is, ne_eqb (P a) 0 ne) (first-new P i (P a) 1 xs a more tail refl)

first-agree : (P R : Arc → ℕ) (i m n : ℕ) (arcs : List Arc) → All (λ a. a.tail ≡ i → P a ≡ R a) arcs
    → first_number (λ b. (b.tail == i) && (P b == m)) n arcs ≡ first_number (λ b. (b.tail == i) && (R b == m)) n arcs
first-agree P R i m n [] same = refl
first-agree P R i m n (a ∷ arcs) same =
    let more : first_number (λ b. (b.tail == i) && (P b == m)) (suc n) arcs ≡ first_number (λ b. (b.tail == i) && (R b == m)) (suc n) arcs =
    first-agree P R i m (suc n) arcs (All-tail (λ a. a.tail ≡ i → P a ≡ R a) a arcs same) in
    ⊎_elim
    (λ e.
    let head : P a ≡ R a = All-head (λ a. a.tail ≡ i → P a ≡ R a) a arcs same e in
    rw (head, more) refl)
    (λ ne.
    rw (and_left (a.tail == i) (P a == m) (ne_eqb a.tail i ne), and_left (a.tail == i) (R a == m) (ne_eqb a.tail i ne), more) refl)
    (cases_eq a.tail i)

pub choice-agree : (P R : Arc → ℕ) (i : ℕ) (arcs : List Arc) → All (λ a. a.tail ≡ i → P a ≡ R a) arcs → choice_of arcs P i ≡ choice_of arcs R i
choice-agree P R i arcs same =
    rw (first-agree P R i (best_of arcs P i) 1 arcs same, best-agree P R i arcs same) refl
