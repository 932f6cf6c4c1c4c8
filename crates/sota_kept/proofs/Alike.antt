-- Two networks of which the arcs that leave a node match, number by number.
use Rattle.std.proofs.Common.{ℕ, zero, suc, ◌≡◌, ◌+◌, ◌≤◌, List, Option, Some, None, slice_get, refl, sym, ◌∙◌, ap, arith, ⊎_elim}
use Rattle.std.proofs.lemmas.Bool.{cases_eq}
use Rattle.std.proofs.lemmas.Option.{none-some}
use Rattle.sota_network.specs.Network.{Net, arc_at}
use Rattle.sota_network.specs.Grid.{best_of, choice_of, IsFirstBest}
use Rattle.sota_network.specs.declared.network.Arc.{Arc}
use Rattle.sota_kept.specs.Laws.{Lawful}
use Rattle.sota_kept.proofs.Changed.{Changed, changed-found, set-other}

-- each arc that leaves node i has one of the same number in the other network, of the same worth
abbrev pub Leads : Net → Net → (Arc → ℕ) → (Arc → ℕ) → ℕ → Type 0
Leads net other P R i = (e : ℕ) (x : Arc) → arc_at net e ≡ Some x → x.tail ≡ i → (y : Arc) × (arc_at other e ≡ Some y) × (y.tail ≡ i) × (P x ≡ R y)

abbrev pub Matches : Net → Net → (Arc → ℕ) → (Arc → ℕ) → ℕ → Type 0
Matches net other P R i = Leads net other P R i × Leads other net R P i

best-led : (net other : Net) → Lawful net → (P R : Arc → ℕ) (i : ℕ) → Leads net other P R i → best_of net.arcs P i ≤ best_of other.arcs R i + 0
best-led net other valid P R i leads =
    valid.near other P R 0 i (λ e x at tail. let y = leads e x at tail in (e, y.0, y.1, y.2, omega (arith, y.3)))

pub best-matched : (net other : Net) → Lawful net → Lawful other → (P R : Arc → ℕ) (i : ℕ) → Matches net other P R i → best_of net.arcs P i ≡ best_of other.arcs R i
best-matched net other valid valid' P R i same =
    omega (arith, best-led net other valid P R i same.0, best-led other net valid' R P i same.1)

-- the first of the best has the number of the first of the best there
first-matched : (net other : Net) → Lawful net → Lawful other → (P R : Arc → ℕ) (i e : ℕ) → Matches net other P R i → IsFirstBest net P i e → IsFirstBest other R i e
first-matched net other valid valid' P R i e same is =
    let there = same.0 e is.arc is.number is.tail in
    let most : best_of net.arcs P i ≡ best_of other.arcs R i = best-matched net other valid valid' P R i same in
    record {
      arc = there.0;
      number = there.1;
      tail = there.2;
      positive = omega (arith, is.positive, there.3);
      greatest = sym there.3 ∙ is.greatest ∙ most;
      first = λ k z at tail worth. let back = same.1 k z at tail in is.first k back.0 back.1 back.2 (sym back.3 ∙ worth ∙ sym there.3);
    }

choice-by : (net other : Net) → Lawful net → Lawful other → (P R : Arc → ℕ) (i : ℕ) → Matches net other P R i → (found : Option ℕ) → choice_of net.arcs P i ≡ found → found ≡ choice_of other.arcs R i
choice-by net other valid valid' P R i same None none =
    sym ((valid'.unchosen R i).1 (sym (best-matched net other valid valid' P R i same) ∙ (valid.unchosen P i).0 none))
choice-by net other valid valid' P R i same (Some e) some =
    sym (valid'.first R i e (first-matched net other valid valid' P R i e same (valid.chosen P i e some)))

pub choice-matched : (net other : Net) → Lawful net → Lawful other → (P R : Arc → ℕ) (i : ℕ) → Matches net other P R i → choice_of net.arcs P i ≡ choice_of other.arcs R i
choice-matched net other valid valid' P R i same = choice-by net other valid valid' P R i same (choice_of net.arcs P i) refl

-- ---- where one arc is another
the : {x y : Arc} → Some x ≡ Some y → x ≡ y
the h = cc

module _ (net other : Net) (k : ℕ) (a b : Arc) (is : Changed net other k a b) (P R : Arc → ℕ) (i : ℕ)
    (own : a.tail ≡ i → P a ≡ R b) (others : (f : ℕ) (x : Arc) → slice_get net.arcs f ≡ Some x → x.tail ≡ i → P x ≡ R x) where
  elsewhere : (f : ℕ) → (f ≡ k → ⊥) → slice_get other.arcs f ≡ slice_get net.arcs f
  elsewhere f apart = ap (λ (xs : List Arc). slice_get xs f) is.arcs ∙ set-other k f b net.arcs apart

  leads-there : Leads net other P R i
  leads-there zero x at tail = absurd (none-some x at)
  leads-there (suc f) x at tail =
      ⊎_elim
      (λ (here : f ≡ k).
      let same : x ≡ a = the (sym at ∙ ap (slice_get net.arcs) here ∙ is.found) in
      let tail' : a.tail ≡ i = ap (λ (y : Arc). y.tail) (sym same) ∙ tail in
      (b, ap (slice_get other.arcs) here ∙ changed-found net other k a b is, is.tails ∙ tail', ap P same ∙ own tail'))
      (λ (apart : f ≡ k → ⊥). (x, elsewhere f apart ∙ at, tail, others f x at tail))
      (cases_eq f k)

  leads-back : Leads other net R P i
  leads-back zero y at tail = absurd (none-some y at)
  leads-back (suc f) y at tail =
      ⊎_elim
      (λ (here : f ≡ k).
      let same : y ≡ b = the (sym at ∙ ap (slice_get other.arcs) here ∙ changed-found net other k a b is) in
      let tail' : a.tail ≡ i = sym is.tails ∙ ap (λ (x : Arc). x.tail) (sym same) ∙ tail in
      (a, ap (slice_get net.arcs) here ∙ is.found, tail', ap R same ∙ sym (own tail')))
      (λ (apart : f ≡ k → ⊥).
      let at' : slice_get net.arcs f ≡ Some y = sym (elsewhere f apart) ∙ at in
      (y, at', tail, sym (others f y at' tail)))
      (cases_eq f k)

  pub changed-matches : Matches net other P R i
  changed-matches = (leads-there, leads-back)
