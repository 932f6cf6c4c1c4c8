-- The greatest worth among the arcs that leave a node.
use Rattle.std.proofs.Common.{ℕ, ◌≡◌, ◌+◌, ◌<◌, ◌≤◌, Option, Some, None, refl, sym, ◌∙◌, ap, subst, arith, ⊎_elim}
use Rattle.std.proofs.lemmas.Bool.{cases_lt}
use Rattle.sota_network.specs.Network.{Net, arc_at}
use Rattle.sota_network.specs.Grid.{best_of, choice_of, IsFirstBest}
use Rattle.sota_network.specs.declared.network.Arc.{Arc}
use Rattle.sota_period.specs.Laws.{NetworkLaws}

-- each arc that leaves node i has this
abbrev pub Each : Net → ℕ → (Arc → Type 0) → Type 0
Each net i P = (e : ℕ) (a : Arc) → arc_at net e ≡ Some a → a.tail ≡ i → P a

module _ (laws : NetworkLaws) (net : Net) where
  pub best-has : (P : Arc → ℕ) (i e : ℕ) (a : Arc) → arc_at net e ≡ Some a → a.tail ≡ i
      → P a ≤ best_of net.arcs P i
  best-has P i e a is tail =
      subst (λ (n : ℕ). P a ≤ best_of net.arcs P n) tail (laws.greatest net P e a is)

  found-by : (P : Arc → ℕ) (i : ℕ) (o : Option ℕ) → choice_of net.arcs P i ≡ o
      → 0 < best_of net.arcs P i → (e : ℕ) × (choice_of net.arcs P i ≡ Some e)
  found-by P i None is positive =
      let none : best_of net.arcs P i ≡ 0 = (laws.none net P i).0 is in
      absurd (omega arith)
  found-by P i (Some e) is positive = (e, is)

  -- a positive greatest worth is that of the arc that is chosen
  pub best-found : (P : Arc → ℕ) (i : ℕ) → 0 < best_of net.arcs P i
      → (e : ℕ) × (choice_of net.arcs P i ≡ Some e) × IsFirstBest net P i e
  best-found P i positive =
      let some = found-by P i (choice_of net.arcs P i) refl positive in
      (some.0, some.1, laws.found net P i some.0 some.1)

  pub best-bound : (P : Arc → ℕ) (i m : ℕ) → Each net i (λ a. P a ≤ m) → best_of net.arcs P i ≤ m
  best-bound P i m each =
      ⊎_elim
      (λ (positive : 0 < best_of net.arcs P i).
      let found = best-found P i positive in
      let first : IsFirstBest net P i found.0 = found.2 in
      let most : P first.arc ≤ m = each found.0 first.arc first.number first.tail in
      omega (arith, first.greatest))
      (λ (nothing : best_of net.arcs P i ≤ 0). omega arith)
      (cases_lt 0 (best_of net.arcs P i))

  pub best-le : (P R : Arc → ℕ) (i m : ℕ) → Each net i (λ a. P a ≤ R a + m)
      → best_of net.arcs P i ≤ best_of net.arcs R i + m
  best-le P R i m each =
      best-bound P i (best_of net.arcs R i + m)
      (λ e a is tail. omega (arith, each e a is tail, best-has R i e a is tail))

  pub best-agree : (P R : Arc → ℕ) (i : ℕ) → Each net i (λ a. P a ≡ R a)
      → best_of net.arcs P i ≡ best_of net.arcs R i
  best-agree P R i each =
      let one : best_of net.arcs P i ≤ best_of net.arcs R i + 0 =
      best-le P R i 0 (λ e a is tail. omega (arith, each e a is tail)) in
      let other : best_of net.arcs R i ≤ best_of net.arcs P i + 0 =
      best-le R P i 0 (λ e a is tail. omega (arith, each e a is tail)) in
      omega arith

  first-le : (P R : Arc → ℕ) (i e k : ℕ) → Each net i (λ a. P a ≡ R a) → IsFirstBest net P i e
      → IsFirstBest net R i k → e ≤ k
  first-le P R i e k each one other =
      let there : P other.arc ≡ R other.arc = each k other.arc other.number other.tail in
      let same : P other.arc ≡ P one.arc =
      omega (arith, there, other.greatest, one.greatest, best-agree P R i each) in
      one.first k other.arc other.number other.tail same

  choice-by : (P R : Arc → ℕ) (i : ℕ) → Each net i (λ a. P a ≡ R a)
      → (o : Option ℕ) → choice_of net.arcs P i ≡ o → (r : Option ℕ) → choice_of net.arcs R i ≡ r
      → choice_of net.arcs P i ≡ choice_of net.arcs R i
  choice-by P R i each None is r is-r =
      let none : best_of net.arcs P i ≡ 0 = (laws.none net P i).0 is in
      is ∙ sym ((laws.none net R i).1 (sym (best-agree P R i each) ∙ none))
  choice-by P R i each (Some e) is None is-r =
      let none : best_of net.arcs R i ≡ 0 = (laws.none net R i).0 is-r in
      (laws.none net P i).1 (best-agree P R i each ∙ none) ∙ sym is-r
  choice-by P R i each (Some e) is (Some k) is-r =
      let one : IsFirstBest net P i e = laws.found net P i e is in
      let other : IsFirstBest net R i k = laws.found net R i k is-r in
      let low : e ≤ k = first-le P R i e k each one other in
      let high : k ≤ e = first-le R P i k e (λ f a number tail. sym (each f a number tail)) other one in
      let same : e ≡ k = omega arith in
      is ∙ ap (λ (n : ℕ). Some n) same ∙ sym is-r

  pub choice-agree : (P R : Arc → ℕ) (i : ℕ) → Each net i (λ a. P a ≡ R a)
      → choice_of net.arcs P i ≡ choice_of net.arcs R i
  choice-agree P R i each =
      choice-by P R i each (choice_of net.arcs P i) refl (choice_of net.arcs R i) refl
