-- What is chosen among the arcs of a node.
use Rattle.std.proofs.Common.{ℕ, zero, suc, ◌≡◌, ◌+◌, ◌<◌, ◌≤◌, ◌==◌, ◌&&◌, Bool, true, false, List, [], ◌∷◌, None, Some, slice_get, refl, sym, ◌∙◌, ap, arith, ⊎_elim}
use Rattle.std.proofs.lemmas.Bool.{cases_Bool, cases_lt, eq-eqb, ne_eqb, eqb-true, and_from, and_parts, true≢false}
use Rattle.std.proofs.lemmas.Option.{none-some}
use Rattle.sota_network.specs.Network.{Net, arc_at}
use Rattle.sota_network.specs.Numbers.{first_number}
use Rattle.sota_network.specs.Grid.{best_of, choice_of, IsFirstBest}
use Rattle.sota_network.specs.declared.network.Arc.{Arc}
use Rattle.sota_network.proofs.Best.{best-attained, best-has_number, first-finds}

-- the number e, counted from n, is that of the first item that passes
record IsFirst (test : Arc → Bool) (n e : ℕ) (arcs : List Arc) : Type 0 where
  place : ℕ
  arc : Arc
  at : e ≡ n + place
  is : slice_get arcs place ≡ Some arc
  passes : test arc ≡ true
  least : (k : ℕ) (a : Arc) → slice_get arcs k ≡ Some a → test a ≡ true → place ≤ k

later-least : (test : Arc → Bool) (b : Arc) (rest : List Arc) (place : ℕ) → test b ≡ false → ((k : ℕ) (a : Arc) → slice_get rest k ≡ Some a → test a ≡ true → place ≤ k)
    → (k : ℕ) (a : Arc) → slice_get (b ∷ rest) k ≡ Some a → test a ≡ true → suc place ≤ k
later-least test b rest place fails least zero a is pass =
    let same : b ≡ a = cc in
    absurd (true≢false (sym pass ∙ ap test (sym same) ∙ fails))
later-least test b rest place fails least (suc k) a is pass = omega (arith, least k a is pass)

first-is : (test : Arc → Bool) (n e : ℕ) (arcs : List Arc) → first_number test n arcs ≡ Some e → IsFirst test n e arcs
first-is test n e [] h = absurd (none-some e h)
first-is test n e (b ∷ rest) h =
    ⊎_elim
    (λ (yes : test b ≡ true).
    let here : Some n ≡ Some e = rw yes at h in
    let number : n ≡ e = cc in
    record { place = 0; arc = b; at = omega (arith, number); is = refl; passes = yes; least = λ k a is pass. omega arith })
    (λ (no : test b ≡ false).
    let more : IsFirst test (suc n) e rest = first-is test (suc n) e rest (rw no at h) in
    record { place = suc more.place; arc = more.arc; at = omega (arith, more.at); is = more.is; passes = more.passes; least = later-least test b rest more.place no more.least })
    (cases_Bool (test b))

module _ (net : Net) (worth : Arc → ℕ) (i : ℕ) where
  is_best : Arc → Bool
  is_best b = (b.tail == i) && (worth b == best_of net.arcs worth i)

  best-passes : (a : Arc) → a.tail ≡ i → worth a ≡ best_of net.arcs worth i → is_best a ≡ true
  unfolding is_best
  best-passes a tail most =
      and_from (a.tail == i) (worth a == best_of net.arcs worth i) (eq-eqb a.tail i tail) (eq-eqb (worth a) (best_of net.arcs worth i) most)

  chosen-of : 0 < best_of net.arcs worth i → choice_of net.arcs worth i ≡ first_number is_best 1 net.arcs
  unfolding is_best
  chosen-of positive = rw (ne_eqb (best_of net.arcs worth i) 0 (λ z. omega arith)) refl

  pub chosen-none : best_of net.arcs worth i ≡ 0 → choice_of net.arcs worth i ≡ None
  chosen-none nothing = rw (eq-eqb (best_of net.arcs worth i) 0 nothing) refl

  -- a positive greatest worth is that of an arc
  pub chosen-some : 0 < best_of net.arcs worth i → (e : ℕ) × (choice_of net.arcs worth i ≡ Some e)
  chosen-some positive =
      let found = best-attained worth i net.arcs positive in
      let first = first-finds is_best 1 found.0 found.1 net.arcs found.2 (best-passes found.1 found.3 found.4) in
      (1 + first.0, chosen-of positive ∙ first.2)

  pub none-chosen : choice_of net.arcs worth i ≡ None → best_of net.arcs worth i ≡ 0
  none-chosen none =
      ⊎_elim
      (λ (positive : 0 < best_of net.arcs worth i).
      let some = chosen-some positive in
      absurd (none-some some.0 (sym none ∙ some.1)))
      (λ (nothing : best_of net.arcs worth i ≤ 0). omega arith)
      (cases_lt 0 (best_of net.arcs worth i))

  first-place : (place : ℕ) (least : (k : ℕ) (a : Arc) → slice_get net.arcs k ≡ Some a → is_best a ≡ true → place ≤ k)
      → (k : ℕ) (other : Arc) → arc_at net k ≡ Some other → other.tail ≡ i → worth other ≡ best_of net.arcs worth i → suc place ≤ k
  first-place place least zero other is tail most = absurd (none-some other is)
  first-place place least (suc k) other is tail most = omega (arith, least k other is (best-passes other tail most))

  pub chosen-first : (e : ℕ) → choice_of net.arcs worth i ≡ Some e → IsFirstBest net worth i e
  unfolding is_best
  chosen-first e chosen =
      let positive : 0 < best_of net.arcs worth i =
      ⊎_elim
      (λ (more : 0 < best_of net.arcs worth i). more)
      (λ (nothing : best_of net.arcs worth i ≤ 0). absurd (none-some e (sym (chosen-none (omega arith)) ∙ chosen)))
      (cases_lt 0 (best_of net.arcs worth i)) in
      let first : IsFirst is_best 1 e net.arcs = first-is is_best 1 e net.arcs (sym (chosen-of positive) ∙ chosen) in
      let number : e ≡ suc first.place = omega (arith, first.at) in
      let parts = and_parts (first.arc.tail == i) (worth first.arc == best_of net.arcs worth i) first.passes in
      let most : worth first.arc ≡ best_of net.arcs worth i = eqb-true (worth first.arc) (best_of net.arcs worth i) parts.1 in
      record {
        arc = first.arc;
        number = ap (arc_at net) number ∙ first.is;
        tail = eqb-true first.arc.tail i parts.0;
        positive = omega (arith, most, positive);
        greatest = most;
        first = λ k other is tail same. omega (arith, number, first-place first.place first.least k other is tail (same ∙ most));
      }

  -- the first of the best is chosen
  pub first-chosen : (e : ℕ) → IsFirstBest net worth i e → choice_of net.arcs worth i ≡ Some e
  first-chosen e is =
      let some = chosen-some (omega (arith, is.positive, is.greatest)) in
      let other : IsFirstBest net worth i some.0 = chosen-first some.0 some.1 in
      let up : e ≤ some.0 = is.first some.0 other.arc other.number other.tail (other.greatest ∙ sym is.greatest) in
      let down : some.0 ≤ e = other.first e is.arc is.number is.tail (is.greatest ∙ sym other.greatest) in
      let same : some.0 ≡ e = omega arith in
      some.1 ∙ ap Some same

-- for each arc that leaves the node another, of another network, that is worth less by at most g
pub best-near : (net other : Net) (P R : Arc → ℕ) (g i : ℕ)
    → ((e : ℕ) (a : Arc) → arc_at net e ≡ Some a → a.tail ≡ i → (k : ℕ) × (b : Arc) × (arc_at other k ≡ Some b) × (b.tail ≡ i) × (P a ≤ R b + g))
    → best_of net.arcs P i ≤ best_of other.arcs R i + g
best-near net other P R g i near =
    ⊎_elim
    (λ (positive : 0 < best_of net.arcs P i).
    let found = best-attained P i net.arcs positive in
    let there = near (suc found.0) found.1 found.2 found.3 in
    let most : R there.1 ≤ best_of other.arcs R i = best-has_number other R i there.0 there.1 there.2 there.3 in
    omega (arith, found.4, there.4))
    (λ (nothing : best_of net.arcs P i ≤ 0). omega arith)
    (cases_lt 0 (best_of net.arcs P i))
