-- The greatest worth among numbered arcs, number by number.
use Rattle.std.proofs.Common.{ℕ, suc, ◌≡◌, ◌+◌, ◌<◌, ◌≤◌, length, get_or, take, ◌==◌, ◌&&◌, max, nat_lt, true, List, [], ◌∷◌, ◌++◌, Option, Some, slice_get, take_all, refl, sym, ◌∙◌, ap, subst, arith, ⊎_elim, if◌then◌else◌}
use Rattle.std.proofs.lemmas.Bool.{eq-eqb, ne_eqb, eqb-true, cases_eq, cases_lt, and_from, and_left, and_right, lt-ltb, le-ltb}
use Rattle.sota_network.specs.Network.{Net, arc_at}
use Rattle.std.proofs.lemmas.List.{take_more}
use Rattle.sota_network.specs.Numbers.{numbers, first_number}
use Rattle.sota_network.specs.Grid.{best_of, choice_of}
use Rattle.sota_network.specs.Among.{leaving_numbers, best_among, first_among, choice_among, worth_of, numbered_worth}
use Rattle.sota_network.specs.declared.network.Arc.{Arc}
use Rattle.sota_network.proofs.Best.{best-in, best-out}
use Rattle.sota_network.proofs.Numbered.{numbers-only}

-- ---- one number more
pub best-more : (w : ℕ → ℕ) (es : List ℕ) (e : ℕ) → best_among w (es ++ e ∷ []) ≡ max (best_among w es) (w e)
best-more w [] e = omega arith
best-more w (x ∷ es) e = omega (arith, best-more w es e)

first-new : (w : ℕ → ℕ) (m : ℕ) (es : List ℕ) (e : ℕ) → best_among w es < m → w e ≡ m → first_among w m (es ++ e ∷ []) ≡ Some e
first-new w m [] e h is = rw (eq-eqb (w e) m is) refl
first-new w m (x ∷ es) e h is =
    let off : w x ≡ m → ⊥ = λ z. omega arith in
    rw (ne_eqb (w x) m off) (first-new w m es e (omega arith) is)

first-kept : (w : ℕ → ℕ) (m : ℕ) (es : List ℕ) (e : ℕ) → 0 < m → best_among w es ≡ m → first_among w m (es ++ e ∷ []) ≡ first_among w m es
first-kept w m [] e some is = absurd (omega arith)
first-kept w m (x ∷ es) e some is =
    ⊎_elim
    (λ (here : w x ≡ m). rw (eq-eqb (w x) m here) refl)
    (λ (off : w x ≡ m → ⊥).
    let rest : best_among w es ≡ m = omega arith in
    rw (ne_eqb (w x) m off) (first-kept w m es e some rest))
    (cases_eq (w x) m)

pub choice-new : (w : ℕ → ℕ) (es : List ℕ) (e : ℕ) → best_among w es < w e → choice_among w (es ++ e ∷ []) ≡ Some e
choice-new w es e more =
    let best : best_among w (es ++ e ∷ []) ≡ w e = best-more w es e ∙ omega arith in
    let some : w e ≡ 0 → ⊥ = λ z. omega arith in
    rw (best, ne_eqb (w e) 0 some) (first-new w (w e) es e more refl)

pub choice-kept : (w : ℕ → ℕ) (es : List ℕ) (e : ℕ) → w e ≤ best_among w es → choice_among w (es ++ e ∷ []) ≡ choice_among w es
choice-kept w es e less =
    let best : best_among w (es ++ e ∷ []) ≡ best_among w es = best-more w es e ∙ omega arith in
    ⊎_elim
    (λ (none : best_among w es ≡ 0). rw (best, eq-eqb (best_among w es) 0 none) refl)
    (λ (some : best_among w es ≡ 0 → ⊥). rw (best, ne_eqb (best_among w es) 0 some) (first-kept w (best_among w es) es e (omega arith) refl))
    (cases_eq (best_among w es) 0)

-- ---- all arcs that leave a node
-- the arcs from number n on have these worths
abbrev Has : (ℕ → ℕ) → (Arc → ℕ) → ℕ → List Arc → Type 0
Has w P n arcs = (k : ℕ) (a : Arc) → slice_get arcs k ≡ Some a → w (n + k) ≡ P a

has-first : (w : ℕ → ℕ) (P : Arc → ℕ) (n : ℕ) (a : Arc) (arcs : List Arc) → Has w P n (a ∷ arcs) → w n ≡ P a
has-first w P n a arcs has =
    let at : n ≡ n + 0 = omega arith in
    ap w at ∙ has 0 a refl

has-rest : (w : ℕ → ℕ) (P : Arc → ℕ) (n : ℕ) (a : Arc) (arcs : List Arc) → Has w P n (a ∷ arcs) → Has w P (suc n) arcs
has-rest w P n a arcs has k b is =
    let at : suc n + k ≡ n + suc k = omega arith in
    ap w at ∙ has (suc k) b is

best-numbers : (w : ℕ → ℕ) (P : Arc → ℕ) (i n : ℕ) (arcs : List Arc) → Has w P n arcs → best_of arcs P i ≡ best_among w (numbers (λ (arc : Arc). arc.tail == i) n arcs)
best-numbers w P i n [] has = refl
best-numbers w P i n (a ∷ arcs) has =
    let rest : best_of arcs P i ≡ best_among w (numbers (λ (arc : Arc). arc.tail == i) (suc n) arcs) = best-numbers w P i (suc n) arcs (has-rest w P n a arcs has) in
    let first : w n ≡ P a = has-first w P n a arcs has in
    ⊎_elim
    (λ (e : a.tail ≡ i). best-in i P a arcs e ∙ (rw (eq-eqb a.tail i e) (omega (arith, rest, first))))
    (λ (off : a.tail ≡ i → ⊥). best-out i P a arcs off ∙ (rw (ne_eqb a.tail i off) rest))
    (cases_eq a.tail i)

first-numbers : (w : ℕ → ℕ) (P : Arc → ℕ) (i m n : ℕ) (arcs : List Arc) → Has w P n arcs
    → first_number (λ (arc : Arc). (arc.tail == i) && (P arc == m)) n arcs ≡ first_among w m (numbers (λ (arc : Arc). arc.tail == i) n arcs)
first-numbers w P i m n [] has = refl
first-numbers w P i m n (a ∷ arcs) has =
    let rest = first-numbers w P i m (suc n) arcs (has-rest w P n a arcs has) in
    let first : w n ≡ P a = has-first w P n a arcs has in
    ⊎_elim
    (λ (e : a.tail ≡ i).
    ⊎_elim
    (λ (here : P a ≡ m).
    let here' : w n ≡ m = first ∙ here in
    rw (and_from (a.tail == i) (P a == m) (eq-eqb a.tail i e) (eq-eqb (P a) m here), eq-eqb a.tail i e, eq-eqb (w n) m here') refl)
    (λ (far : P a ≡ m → ⊥).
    let far' : w n ≡ m → ⊥ = λ z. far (sym first ∙ z) in
    rw (and_right (a.tail == i) (P a == m) (ne_eqb (P a) m far), eq-eqb a.tail i e, ne_eqb (w n) m far') rest)
    (cases_eq (P a) m))
    (λ (off : a.tail ≡ i → ⊥). rw (and_left (a.tail == i) (P a == m) (ne_eqb a.tail i off), ne_eqb a.tail i off) rest)
    (cases_eq a.tail i)

has-all : (net : Net) (P : Arc → ℕ) → Has (numbered_worth net P) P 1 net.arcs
has-all net P k a is =
    let at : 1 + k ≡ suc k = omega arith in
    ap (numbered_worth net P) at ∙ ap (λ (o : Option Arc). worth_of o P) is

pub best-all : (net : Net) (P : Arc → ℕ) (i : ℕ) → best_of net.arcs P i ≡ best_among (numbered_worth net P) (leaving_numbers net i)
best-all net P i = best-numbers (numbered_worth net P) P i 1 net.arcs (has-all net P)

pub choice-all : (net : Net) (P : Arc → ℕ) (i : ℕ) → choice_of net.arcs P i ≡ choice_among (numbered_worth net P) (leaving_numbers net i)
choice-all net P i = rw (best-all net P i, first-numbers (numbered_worth net P) P i (best_among (numbered_worth net P) (leaving_numbers net i)) 1 net.arcs (has-all net P)) refl

-- ---- a walk over the numbers of the arcs that leave a node
-- the arc of the number that a walk over them reads
pub out-read : (net : Net) (node k e : ℕ) (es : List ℕ) → es ≡ leaving_numbers net node → k < length es → e ≡ get_or es k e
    → (arc : Arc) × (arc_at net e ≡ Some arc) × (arc.tail ≡ node)
out-read net node k e es same h is =
    let there : k < length (leaving_numbers net node) = subst (λ (xs : List ℕ). k < length xs) same h in
    let at : e ≡ get_or (leaving_numbers net node) k e = is ∙ ap (λ (xs : List ℕ). get_or xs k e) same in
    let out = subst (λ (i : ℕ). (a : Arc) × (arc_at net i ≡ Some a) × ((a.tail == node) ≡ true)) (sym at) (numbers-only net (λ (arc : Arc). arc.tail == node) k e there) in
    (out.0, out.1, eqb-true out.0.tail node out.2)

pub worth-out : (net : Net) (P : Arc → ℕ) (e : ℕ) (arc : Arc) → arc_at net e ≡ Some arc → P arc ≡ numbered_worth net P e
worth-out net P e arc number = sym (ap (λ (o : Option Arc). worth_of o P) number)

front : (es : List ℕ) (k e : ℕ) → k < length es → e ≡ get_or es k e → take (k + 1) es ≡ take k es ++ e ∷ []
front es k e h is = take_more es k e h ∙ ap (λ (x : ℕ). take k es ++ x ∷ []) (sym is)

pub best-step : (w : ℕ → ℕ) (es : List ℕ) (k e old sum new : ℕ) → k < length es → e ≡ get_or es k e → old ≡ best_among w (take k es) → sum ≡ w e → new ≡ max old sum → new ≡ best_among w (take (k + 1) es)
best-step w es k e old sum new h is was has more =
    let now : best_among w (take (k + 1) es) ≡ max (best_among w (take k es)) (w e) = ap (best_among w) (front es k e h is) ∙ best-more w (take k es) e in
    omega arith

pub choice-step : (w : ℕ → ℕ) (es : List ℕ) (k e old sum : ℕ) (was new : Option ℕ) → k < length es → e ≡ get_or es k e → old ≡ best_among w (take k es) → sum ≡ w e → was ≡ choice_among w (take k es)
    → new ≡ (if nat_lt old sum then Some e else was) → new ≡ choice_among w (take (k + 1) es)
choice-step w es k e old sum was new h is is-old has is-was is-new =
    let now : choice_among w (take (k + 1) es) ≡ choice_among w (take k es ++ e ∷ []) = ap (choice_among w) (front es k e h is) in
    ⊎_elim
    (λ (less : old < sum).
    let more : best_among w (take k es) < w e = omega arith in
    (rw (lt-ltb old sum less) at is-new) ∙ sym (now ∙ choice-new w (take k es) e more))
    (λ (most : sum ≤ old).
    let kept : w e ≤ best_among w (take k es) = omega arith in
    (rw (le-ltb old sum most) at is-new) ∙ is-was ∙ sym (now ∙ choice-kept w (take k es) e kept))
    (cases_lt old sum)

pub best-end : (net : Net) (P : Arc → ℕ) (node : ℕ) (es : List ℕ) (k : ℕ) → es ≡ leaving_numbers net node → length es ≤ k → best_among (numbered_worth net P) (take k es) ≡ best_of net.arcs P node
best-end net P node es k same past = ap (best_among (numbered_worth net P)) (take_all k es past ∙ same) ∙ sym (best-all net P node)

pub choice-end : (net : Net) (P : Arc → ℕ) (node : ℕ) (es : List ℕ) (k : ℕ) → es ≡ leaving_numbers net node → length es ≤ k → choice_among (numbered_worth net P) (take k es) ≡ choice_of net.arcs P node
choice-end net P node es k same past = ap (choice_among (numbered_worth net P)) (take_all k es past ∙ same) ∙ sym (choice-all net P node)
