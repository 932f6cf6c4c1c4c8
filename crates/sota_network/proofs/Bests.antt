-- The bests of all nodes, when one arc more is looked at.
use Rattle.std.proofs.Common.{ℕ, ◌≡◌, ◌≢◌, ◌+◌, ◌-◌, ◌<◌, ◌≤◌, List, [], ◌∷◌, ◌++◌, length, set, Some, refl, sym, ◌∙◌, arith, ⊎_elim}
use Rattle.std.proofs.lemmas.Bool.{cases_eq}
use Rattle.sota_network.specs.Grid.{best_of, choice_of}
use Rattle.sota_network.specs.Bests.{bests_of}
use Rattle.sota_network.specs.declared.network.Arc.{Arc}
use Rattle.sota_network.specs.declared.plain.Best.{Best}
use Rattle.sota_network.proofs.Listed.{length-listed, listed-agree, set-listed}
use Rattle.sota_network.proofs.Best.{best-push_in, best-push_out, choice-push_same, choice-push_new}

pub length-bests : (n : ℕ) (arcs : List Arc) (P : Arc → ℕ) → length (bests_of n arcs P) ≡ n
length-bests n arcs P = length-listed (λ i. record { sum = best_of arcs P i; arc = choice_of arcs P i }) n

module _ (P : Arc → ℕ) (n : ℕ) (xs : List Arc) (a : Arc) where
  abbrev entry : List Arc → ℕ → Best
  entry arcs i = record { sum = best_of arcs P i; arc = choice_of arcs P i }

  -- where the greatest stays, the entry stays
  entry-stays : (i : ℕ) → best_of (xs ++ a ∷ []) P i ≡ best_of xs P i → entry (xs ++ a ∷ []) i ≡ entry xs i
  entry-stays i same = rw (choice-push_same P i xs a same, same) refl

  entry-elsewhere : (i : ℕ) → i ≢ a.tail → entry (xs ++ a ∷ []) i ≡ entry xs i
  entry-elsewhere i off =
      let far : a.tail ≡ i → ⊥ = λ e. off (sym e) in
      entry-stays i (best-push_out P i xs a far)

  -- an arc with more than all before it takes its tail's entry
  pub bests-grow : 1 ≤ a.tail → a.tail ≤ n → best_of xs P a.tail < P a
      → set (bests_of n xs P) (a.tail - 1) (record { sum = P a; arc = Some (1 + length xs) }) ≡ bests_of n (xs ++ a ∷ []) P
  bests-grow low high more =
      let sum : best_of (xs ++ a ∷ []) P a.tail ≡ P a = best-push_in P a.tail xs a refl ∙ omega arith in
      let here : entry (xs ++ a ∷ []) a.tail ≡ record { sum = P a; arc = Some (1 + length xs) } = rw (choice-push_new P a.tail xs a refl more, sum) refl in
      set-listed (entry xs) (entry (xs ++ a ∷ [])) n a.tail (record { sum = P a; arc = Some (1 + length xs) }) low high here entry-elsewhere

  -- an arc with no more than one before it changes nothing
  pub bests-stay : P a ≤ best_of xs P a.tail → bests_of n xs P ≡ bests_of n (xs ++ a ∷ []) P
  bests-stay less =
      listed-agree (entry xs) (entry (xs ++ a ∷ [])) n (λ i low high.
      ⊎_elim
      (λ (at : i ≡ a.tail).
      let same : best_of (xs ++ a ∷ []) P i ≡ best_of xs P i = best-push_in P i xs a (sym at) ∙ (rw at (omega arith)) in
      sym (entry-stays i same))
      (λ (off : i ≡ a.tail → ⊥). sym (entry-elsewhere i off))
      (cases_eq i a.tail))
