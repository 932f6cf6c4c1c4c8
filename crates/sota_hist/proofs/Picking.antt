-- The first tick whose cumulated mass exceeds a draw, and the least tick that stands twice.
use Rattle.std.proofs.Common.{ℕ, ◌≡◌, ◌+◌, ◌<◌, ◌≤◌, cond, List, [], ◌∷◌, drop, get_or, length, Option, None, Some, IsNone, ◌↔◌, refl, sym, ◌∙◌, ap, subst, arith, inl, inr, ⊎_elim, nat_lt}
use Rattle.std.proofs.lemmas.Bool.{true≢false, cases_lt, lt-ltb, le-ltb, ltb-true}
use Rattle.std.proofs.lemmas.List.{at_drop_more, drop_all}
use Rattle.sota_hist.specs.Time.{RisesFrom, IsTime, ticks, total, within, picked}
use Rattle.sota_hist.proofs.Least.{Among, LeastSuch, least_same, least_of_is}
use Rattle.sota_hist.proofs.Ticks.{total-cons, within-in, within_none, among_above}

-- the first tick whose cumulated mass exceeds the draw, where so much mass stands before the list
abbrev pub pick_from : ℕ → ℕ → List (ℕ × ℕ) → Option ℕ
pick_from draw sum [] = None
pick_from draw sum (p ∷ ps) = cond (nat_lt draw (sum + p.1)) (Some p.0) (pick_from draw (sum + p.1) ps)

abbrev Exceeds : ℕ → ℕ → List (ℕ × ℕ) → ℕ → Type 0
Exceeds draw sum ps t = (draw < sum + total (within t ps)) × Among t (ticks ps)

pick_least : (draw sum floor : ℕ) (ps : List (ℕ × ℕ)) → RisesFrom floor ps → sum ≤ draw → LeastSuch (Exceeds draw sum ps) (pick_from draw sum ps)
pick_least draw sum floor [] r low = λ t e. e.1
pick_least draw sum floor (p ∷ ps) r low =
    let at : within p.0 (p ∷ ps) ≡ p ∷ [] = within-in p.0 p ps (omega arith) ∙ ap (λ (qs : List (ℕ × ℕ)). p ∷ qs) (within_none p.0 p.0 ps r.2 (omega arith)) in
    let here : total (within p.0 (p ∷ ps)) ≡ p.1 = ap total at ∙ total-cons p [] ∙ (omega arith) in
    ⊎_elim
    (λ (over : draw < sum + p.1). rw (lt-ltb draw (sum + p.1) over) (
      ((let e : draw < sum + total (within p.0 (p ∷ ps)) = omega (arith, here) in e), inl refl),
      λ t e. ⊎_elim (λ (s : p.0 ≡ t). omega arith) (λ (a : Among t (ticks ps)). let h : p.0 < t = among_above p.0 t ps r.2 a in omega arith) e.1,
    ))
    (λ (under : sum + p.1 ≤ draw). rw (le-ltb draw (sum + p.1) under)
    (least_same (Exceeds draw (sum + p.1) ps) (Exceeds draw sum (p ∷ ps)) (pick_from draw (sum + p.1) ps)
    (λ t e.
    let above : p.0 < t = among_above p.0 t ps r.2 e.1 in
    let more : total (within t (p ∷ ps)) ≡ p.1 + total (within t ps) = ap total (within-in t p ps (omega arith)) ∙ total-cons p (within t ps) in
    ((let h : draw < sum + total (within t (p ∷ ps)) = omega (arith, more, e.0) in h), inr e.1))
    (λ t e. ⊎_elim
    (λ (s : p.0 ≡ t). let no : draw < sum + total (within p.0 (p ∷ ps)) = subst (λ (n : ℕ). draw < sum + total (within n (p ∷ ps))) (sym s) e.0 in absurd (omega (arith, here)))
    (λ (a : Among t (ticks ps)).
    let above : p.0 < t = among_above p.0 t ps r.2 a in
    let more : total (within t (p ∷ ps)) ≡ p.1 + total (within t ps) = ap total (within-in t p ps (omega arith)) ∙ total-cons p (within t ps) in
    ((let h : draw < sum + p.1 + total (within t ps) = omega (arith, more, e.0) in h), a))
    e.1)
    (pick_least draw (sum + p.1) p.0 ps r.2 under)))
    (cases_lt draw (sum + p.1))

pub pick_is : (draw : ℕ) (ps : List (ℕ × ℕ)) → IsTime ps → pick_from draw 0 ps ≡ picked draw ps
pick_is draw ps r =
    least_of_is (Exceeds draw 0 ps) (λ t. nat_lt draw (total (within t ps))) (ticks ps) (pick_from draw 0 ps)
    (λ t e. (lt-ltb draw (total (within t ps)) (omega (arith, e.0)), e.1))
    (λ t e. ((let h : draw < total (within t ps) = ltb-true draw (total (within t ps)) e.0 in omega arith), e.1))
    (pick_least draw 0 0 ps r (omega arith))

-- none is picked exactly where the whole mass is too small
pub pick_none : (draw sum : ℕ) (ps : List (ℕ × ℕ)) → sum ≤ draw → IsNone (pick_from draw sum ps) ↔ (sum + total ps ≤ draw)
pick_none draw sum [] low = ((λ _. omega arith), (λ _. refl))
pick_none draw sum (p ∷ ps) low =
    let whole : total (p ∷ ps) ≡ p.1 + total ps = total-cons p ps in
    ⊎_elim
    (λ (over : draw < sum + p.1). rw (lt-ltb draw (sum + p.1) over) ((λ no. absurd (true≢false no)), (λ small. absurd (omega (arith, whole)))))
    (λ (under : sum + p.1 ≤ draw). rw (le-ltb draw (sum + p.1) under)
    (let rest = pick_none draw (sum + p.1) ps under in ((λ no. (let h : sum + p.1 + total ps ≤ draw = rest.0 no in omega (arith, whole))), (λ small. rest.1 (omega (arith, whole))))))
    (cases_lt draw (sum + p.1))

-- a draw that the mass of this pair exceeds
pub pick_here : (draw sum i : ℕ) (ps : List (ℕ × ℕ)) (p : ℕ × ℕ) → i < length ps → p ≡ get_or ps i p → draw < sum + p.1 → pick_from draw sum (drop i ps) ≡ Some p.0
pick_here draw sum i ps p below is over =
    at_drop_more (pick_from draw sum) ps i p below
    ∙ subst (λ (q : ℕ × ℕ). pick_from draw sum (q ∷ drop (i + 1) ps) ≡ Some p.0) is (rw (lt-ltb draw (sum + p.1) over) refl)

-- an option that is what is picked
abbrev pub IsPick : ℕ → List (ℕ × ℕ) → Option ℕ → Type 0
IsPick draw time r = (r ≡ picked draw time) × (IsNone r ↔ (total time ≤ draw))

-- what the whole walk gives is what is picked
pub pick_whole : (draw : ℕ) (ps time : List (ℕ × ℕ)) (r : Option ℕ) → IsTime ps → ps ≡ time → r ≡ pick_from draw 0 ps → IsPick draw time r
pick_whole draw ps time r valid same is =
    subst (IsPick draw time) (sym is)
    (subst (λ (qs : List (ℕ × ℕ)). IsPick draw qs (pick_from draw 0 ps)) same (
      pick_is draw ps valid,
      (let whole = pick_none draw 0 ps (omega arith) in ((λ no. (let h : 0 + total ps ≤ draw = whole.0 no in omega arith)), (λ small. whole.1 (omega arith)))),
    ))

-- where the walk ends
pub pick_end : (draw sum i : ℕ) (ps : List (ℕ × ℕ)) → length ps ≤ i → pick_from draw sum (drop i ps) ≡ pick_from draw 0 ps → None ≡ pick_from draw 0 ps
pick_end draw sum i ps done rest = rw (drop_all i ps done) at rest
