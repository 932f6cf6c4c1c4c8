-- Items of one size that were spelled one after the other at a place stand there, and what stands there is what they spell.
use Rattle.std.proofs.Common.{◌≡◌, ℕ, zero, suc, ◌+◌, ◌*◌, ◌≤◌, List, [], ◌∷◌, ◌++◌, length, take, drop, map, refl, sym, ap, ◌∙◌, append_assoc, arith}
use Rattle.std.specs.List.{flat_map, range_with_len, AllByRecursion}
use Rattle.std.proofs.lemmas.List.{length-append, take_all}

one-more : (size k : ℕ) → size * (k + 1) ≡ size * k + size
one-more size k = omega arith

more : (size k n : ℕ) → size * (k + suc n) ≡ size * k + size + size * n
more size k n = omega arith

module _ {Item : Type 0} (size : ℕ) (Is : Item → Type 0) (spelled : Item → List ℕ) where
  pub length-items : ((item : Item) → length (spelled item) ≡ size) → (items : List Item) → length (flat_map spelled items) ≡ size * length items
  length-items len [] = omega arith
  length-items len (item ∷ items) = omega (arith, length-items len items, length-append (spelled item) (flat_map spelled items), len item)

  module _ (bytes : List ℕ) (read : ℕ → Item) where
    -- an item that was spelled at a place is read there
    abbrev pub ReadsAgain : Type 0
    ReadsAgain = (rest : List ℕ) (at : ℕ) (item : Item) → Is item → drop at bytes ≡ spelled item ++ rest → (read at ≡ item) × (drop (at + size) bytes ≡ rest)

    -- what is read at a place was spelled there
    abbrev pub WasSpelled : Type 0
    WasSpelled = (at : ℕ) → at + size ≤ length bytes → (drop at bytes ≡ spelled (read at) ++ drop (at + size) bytes) × Is (read at)

    abbrev pub items_from : ℕ → ℕ → ℕ → List Item
    items_from at k n = map (λ i. read (at + size * i)) (range_with_len k n)

    pub items_again : ReadsAgain → (at k : ℕ) (items : List Item) (rest : List ℕ) → AllByRecursion Is items → drop (at + size * k) bytes ≡ flat_map spelled items ++ rest → (items_from at k (length items) ≡ items) × (drop (at + size * (k + length items)) bytes ≡ rest)
    items_again again at k [] rest fits e =
        let same : k + 0 ≡ k = omega arith in
        (refl, rw same e)
    items_again again at k (item ∷ items) rest fits e =
        let here = again (flat_map spelled items ++ rest) (at + size * k) item fits.0 (e ∙ append_assoc (spelled item) (flat_map spelled items) rest) in
        let next : at + size * k + size ≡ at + size * (k + 1) = omega (arith, one-more size k) in
        let others = items_again again at (k + 1) items rest fits.1 (rw next at here.1) in
        let end : k + suc (length items) ≡ k + 1 + length items = omega arith in
        (rw (here.0, others.0) refl, rw end others.1)

    pub items_take : WasSpelled → (at k n : ℕ) → at + size * (k + n) ≤ length bytes → (drop (at + size * k) bytes ≡ flat_map spelled (items_from at k n) ++ drop (at + size * (k + n)) bytes) × AllByRecursion Is (items_from at k n)
    items_take takes at k zero within =
        let same : k + 0 ≡ k = omega arith in
        (rw same refl, tt)
    items_take takes at k (suc n) within =
        let whole : at + size * k + size ≤ length bytes = omega (arith, more size k n) in
        let here = takes (at + size * k) whole in
        let next : at + size * k + size ≡ at + size * (k + 1) = omega (arith, one-more size k) in
        let end : k + suc n ≡ k + 1 + n = omega arith in
        let others = items_take takes at (k + 1) n (rw end at within) in
        let item = read (at + size * k) in
        (rw end (here.0 ∙ ap (λ (text : List ℕ). spelled item ++ text) (ap (λ (p : ℕ). drop p bytes) next ∙ others.0) ∙ sym (append_assoc (spelled item) (flat_map spelled (items_from at (k + 1) n)) (drop (at + size * (k + 1 + n)) bytes))), (here.1, others.1))

-- what stood before, a front, and then all items
pub joined : {Item : Type 0} (spelled : Item → List ℕ) (now before old front : List ℕ) (items : List Item) (k : ℕ) → now ≡ before ++ flat_map spelled (take k items) → before ≡ old ++ front → length items ≤ k → now ≡ old ++ (front ++ flat_map spelled items)
joined {Item} spelled now before old front items k now_is before_is all =
    now_is
    ∙ ap (λ (done : List Item). before ++ flat_map spelled done) (take_all k items all)
    ∙ ap (λ (text : List ℕ). text ++ flat_map spelled items) before_is
    ∙ append_assoc old front (flat_map spelled items)
