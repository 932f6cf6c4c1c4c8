-- What is queued for the arcs at a node, and a loop over them.
use Rattle.std.proofs.Common.{ℕ, suc, ◌≡◌, ◌+◌, ◌<◌, ◌≤◌, List, [], ◌∷◌, ◌++◌, length, get_or, take, Option, None, Some, refl, sym, ◌∙◌, ap, arith, inl, inr, ◌⊎◌, ⊎_elim, append_assoc, append-nil}
use Rattle.std.specs.List.{All, Contains, cons_option, filter_map}
use Rattle.std.specs.List.Sorted.{IsPermutation}
use Rattle.std.proofs.lemmas.List.{take_more}
use Rattle.std.proofs.lemmas.List.Elements.{All-contains, All-nil, All-cons, All-head, All-tail, Contains-append_left, Contains-append_right, Contains-append_cases, Contains-push, filter_map-append}
use Rattle.std.proofs.lemmas.List.Sorted.{IsPermutation-push_more}

-- ---- what a function gives of a list
cons-all : {Y : Type 0} (P : Y → Type 0) (o : Option Y) (ys : List Y) → ((y : Y) → o ≡ Some y → P y) → All P ys → All P (cons_option o ys)
cons-all P None ys here more = more
cons-all P (Some y) ys here more = All-cons P y ys (here y refl) more

pub filter_map-all : {X Y : Type 0} (P : X → Type 0) (Q : Y → Type 0) (f : X → Option Y) (xs : List X) → All P xs → ((x : X) (y : Y) → P x → f x ≡ Some y → Q y) → All Q (filter_map f xs)
filter_map-all P Q f [] all each = All-nil Q
filter_map-all P Q f (x ∷ xs) all each =
    cons-all Q (f x) (filter_map f xs) (λ y is. each x y (All-head P x xs all) is) (filter_map-all P Q f xs (All-tail P x xs all) each)

-- a list that begins with an item contains this, or the rest does
pub in-cons : {X : Type 0} (x : X) (xs : List X) (y : X) → Contains (x ∷ xs) y → (x ≡ y) ⊎ Contains xs y
in-cons x xs y has =
    ⊎_elim
    (λ (here : Contains (x ∷ []) y). inl (All-contains (λ z. x ≡ z) (x ∷ []) y (All-cons (λ z. x ≡ z) x [] refl (All-nil (λ z. x ≡ z))) here))
    (λ (more : Contains xs y). inr more)
    (Contains-append_cases (x ∷ []) xs y has)

cons-has : {Y : Type 0} (o : Option Y) (ys : List Y) (y : Y) → Contains ys y → Contains (cons_option o ys) y
cons-has None ys y has = has
cons-has (Some x) ys y has = Contains-append_right (x ∷ []) ys y has

pub filter_map-has : {X Y : Type 0} (f : X → Option Y) (xs : List X) (x : X) (y : Y) → Contains xs x → f x ≡ Some y → Contains (filter_map f xs) y
filter_map-has f [] x y has is = absurd (omega (arith, has.1))
filter_map-has f (z ∷ xs) x y has is =
    ⊎_elim
    (λ (same : z ≡ x). rw (ap f same ∙ is) (Contains-append_left (y ∷ []) (filter_map f xs) y (Contains-push [] y)))
    (λ (more : Contains xs x). cons-has (f z) (filter_map f xs) y (filter_map-has f xs x y more is))
    (in-cons z xs x has)

cons-short : {Y : Type 0} (o : Option Y) (ys : List Y) → length (cons_option o ys) ≤ suc (length ys)
cons-short None ys = omega arith
cons-short (Some y) ys = omega arith

pub filter_map-short : {X Y : Type 0} (f : X → Option Y) (xs : List X) → length (filter_map f xs) ≤ length xs
filter_map-short f [] = omega arith
filter_map-short f (x ∷ xs) = omega (arith, cons-short (f x) (filter_map f xs), filter_map-short f xs)

-- ---- one number more
module _ {Y : Type 0} (f : ℕ → Option Y) (xs : List ℕ) (k e : ℕ) (within : k < length xs) (is : e ≡ get_or xs k e) where
  more : filter_map f (take (k + 1) xs) ≡ filter_map f (take k xs) ++ filter_map f (e ∷ [])
  more =
      ap (filter_map f) (take_more xs k e within) ∙ filter_map-append f (take k xs) (get_or xs k e ∷ [])
      ∙ ap (λ (x : ℕ). filter_map f (take k xs) ++ filter_map f (x ∷ [])) (sym is)

  pub queued-more : (base queue next : List Y) (y : Y) → f e ≡ Some y → IsPermutation (base ++ filter_map f (take k xs)) queue → IsPermutation (y ∷ queue) next → IsPermutation (base ++ filter_map f (take (k + 1) xs)) next
  queued-more base queue next y some so_far pushed =
      let last : filter_map f (take (k + 1) xs) ≡ filter_map f (take k xs) ++ y ∷ [] = rw some at more in
      rw (last, sym (append_assoc base (filter_map f (take k xs)) (y ∷ [])))
      (IsPermutation-push_more (base ++ filter_map f (take k xs)) queue next y so_far pushed)

  pub queued-same : (base queue : List Y) → f e ≡ None → IsPermutation (base ++ filter_map f (take k xs)) queue → IsPermutation (base ++ filter_map f (take (k + 1) xs)) queue
  queued-same base queue never so_far =
      let last : filter_map f (take (k + 1) xs) ≡ filter_map f (take k xs) ++ [] = rw never at more in
      rw (last, append-nil) so_far
