-- Two times are alike up to the first pair in which they differ.
use Rattle.std.proofs.Common.{ℕ, ◌≡◌, ◌+◌, ◌<◌, ◌≤◌, Bool, true, false, cond, not, min, List, [], ◌∷◌, ◌++◌, Option, None, Some, IfSome, IsNone, ◌↔◌, refl, sym, ◌∙◌, ap, subst, arith, inl, inr, ◌⊎◌, ⊎_elim, nat_eq, nat_lt, ◌==◌, ◌&&◌, drop, get_or, length}
use Rattle.std.proofs.lemmas.Bool.{true≢false, cases_lt, cases_eq, cases_order, ne_eqb, eqb-true, eqb-false, not-true, not_from_false, le-ltb}
use Rattle.std.proofs.lemmas.Option.{none-some}
use Rattle.std.proofs.lemmas.List.{drop_more, drop_all}
use Rattle.sota_hist.specs.Time.{RisesFrom, IsTime, ticks, before, mass_at, first_difference}
use Rattle.sota_hist.proofs.Least.{Among, LeastSuch, least_same, least_of_is}
use Rattle.sota_hist.proofs.Ticks.{mass_at-here, mass_at-other, mass_at-cons, mass_at_below, mass_among, before_none}

-- two times have different masses at a tick
abbrev pub Differs : List (ℕ × ℕ) → List (ℕ × ℕ) → ℕ → Type 0
Differs xs ys t = mass_at t xs ≡ mass_at t ys → ⊥

-- the least tick at the first pair in which two lists differ
abbrev pub parting : List (ℕ × ℕ) → List (ℕ × ℕ) → Option ℕ
parting [] [] = None
parting (p ∷ ps) [] = Some p.0
parting [] (q ∷ qs) = Some q.0
parting (p ∷ ps) (q ∷ qs) = cond (nat_eq p.0 q.0) (cond (nat_eq p.1 q.1) (parting ps qs) (Some p.0)) (Some (min p.0 q.0))

-- what holds of the tick where rising lists part
pub record Parts (xs ys : List (ℕ × ℕ)) (r : Option ℕ) : Type 0 where
  pub least : LeastSuch (Differs xs ys) r
  pub same_before : IfSome r (λ t. before t xs ≡ before t ys)
  pub same : r ≡ None → xs ≡ ys

differs_back : (xs ys : List (ℕ × ℕ)) (t : ℕ) → Differs xs ys t → Differs ys xs t
differs_back xs ys t differs = λ same. differs (sym same)

-- a time with a pair parts from one that has ended
alone_least : (floor : ℕ) (p : ℕ × ℕ) (ps : List (ℕ × ℕ)) → RisesFrom floor (p ∷ ps) → LeastSuch (Differs (p ∷ ps) []) (Some p.0)
alone_least floor p ps r = (
  (λ same. omega (arith, mass_at-here p ps, r.1)),
  λ t differs. ⊎_elim
      (λ (low : t < p.0).
      absurd (differs (mass_at-other t p ps (λ e. omega arith) ∙ mass_at_below p.0 t ps r.2 (omega arith))))
      (λ (high : p.0 ≤ t). high)
      (cases_lt t p.0),
)

before_first : (floor : ℕ) (p : ℕ × ℕ) (ps : List (ℕ × ℕ)) (t : ℕ) → RisesFrom floor (p ∷ ps) → t ≤ p.0 → before t (p ∷ ps) ≡ []
before_first floor p ps t r low = rw (le-ltb p.0 t low) (before_none p.0 t ps r.2 (omega arith))

-- both have a first pair, and these are different
apart_differs : (floor : ℕ) (p q : ℕ × ℕ) (ps qs : List (ℕ × ℕ)) → RisesFrom floor (p ∷ ps) → RisesFrom floor (q ∷ qs) → (p.0 ≡ q.0 → p.1 ≡ q.1 → ⊥)
    → ((p.0 ≡ q.0) ⊎ ((p.0 < q.0) ⊎ (q.0 < p.0))) → Differs (p ∷ ps) (q ∷ qs) (min p.0 q.0)
apart_differs floor p q ps qs r s apart (inl e) =
    let at : p.0 ≡ min p.0 q.0 = omega arith in
    subst (Differs (p ∷ ps) (q ∷ qs)) at
    (λ same.
    let theirs : mass_at p.0 (q ∷ qs) ≡ q.1 + mass_at p.0 qs = subst (λ (n : ℕ). mass_at n (q ∷ qs) ≡ q.1 + mass_at n qs) (sym e) (mass_at-here q qs) in
    let none_p : mass_at p.0 ps ≡ 0 = mass_at_below p.0 p.0 ps r.2 (omega arith) in
    let none_q : mass_at p.0 qs ≡ 0 = mass_at_below q.0 p.0 qs s.2 (omega arith) in
    apart e (omega (arith, mass_at-here p ps)))
apart_differs floor p q ps qs r s apart (inr (inl l)) =
    let at : p.0 ≡ min p.0 q.0 = omega arith in
    subst (Differs (p ∷ ps) (q ∷ qs)) at
    (λ same.
    let none : mass_at p.0 (q ∷ qs) ≡ 0 = mass_at-other p.0 q qs (λ e. omega arith) ∙ mass_at_below q.0 p.0 qs s.2 (omega arith) in
    omega (arith, mass_at-here p ps, r.1))
apart_differs floor p q ps qs r s apart (inr (inr g)) =
    let at : q.0 ≡ min p.0 q.0 = omega arith in
    subst (Differs (p ∷ ps) (q ∷ qs)) at
    (λ same.
    let none : mass_at q.0 (p ∷ ps) ≡ 0 = mass_at-other q.0 p ps (λ e. omega arith) ∙ mass_at_below p.0 q.0 ps r.2 (omega arith) in
    omega (arith, mass_at-here q qs, s.1))

apart_least : (floor : ℕ) (p q : ℕ × ℕ) (ps qs : List (ℕ × ℕ)) → RisesFrom floor (p ∷ ps) → RisesFrom floor (q ∷ qs) → (p.0 ≡ q.0 → p.1 ≡ q.1 → ⊥) → LeastSuch (Differs (p ∷ ps) (q ∷ qs)) (Some (min p.0 q.0))
apart_least floor p q ps qs r s apart = (
  apart_differs floor p q ps qs r s apart (cases_order p.0 q.0),
  λ t differs. ⊎_elim
      (λ (low : t < min p.0 q.0).
      let none_p : mass_at t (p ∷ ps) ≡ 0 = mass_at-other t p ps (λ e. omega arith) ∙ mass_at_below p.0 t ps r.2 (omega arith) in
      let none_q : mass_at t (q ∷ qs) ≡ 0 = mass_at-other t q qs (λ e. omega arith) ∙ mass_at_below q.0 t qs s.2 (omega arith) in
      absurd (differs (none_p ∙ sym none_q)))
      (λ (high : min p.0 q.0 ≤ t). high)
      (cases_lt t (min p.0 q.0)),
)

cons_least : (p : ℕ × ℕ) (ps qs : List (ℕ × ℕ)) (r : Option ℕ) → LeastSuch (Differs ps qs) r → LeastSuch (Differs (p ∷ ps) (p ∷ qs)) r
cons_least p ps qs r least =
    least_same (Differs ps qs) (Differs (p ∷ ps) (p ∷ qs)) r
    (λ t differs same. differs (omega (arith, same, mass_at-cons t p ps, mass_at-cons t p qs)))
    (λ t differs same. differs (mass_at-cons t p ps ∙ (rw same (sym (mass_at-cons t p qs)))))
    least

before-cons_same : (t : ℕ) (p : ℕ × ℕ) (ps qs : List (ℕ × ℕ)) → before t ps ≡ before t qs → before t (p ∷ ps) ≡ before t (p ∷ qs)
before-cons_same t p ps qs same = ap (λ (xs : List (ℕ × ℕ)). cond (nat_lt p.0 t) (p ∷ xs) xs) same

parts_apart : (floor : ℕ) (p q : ℕ × ℕ) (ps qs : List (ℕ × ℕ)) → RisesFrom floor (p ∷ ps) → RisesFrom floor (q ∷ qs) → (p.0 ≡ q.0 → p.1 ≡ q.1 → ⊥) → Parts (p ∷ ps) (q ∷ qs) (Some (min p.0 q.0))
parts_apart floor p q ps qs r s apart = record {
  least = apart_least floor p q ps qs r s apart;
  same_before = before_first floor p ps (min p.0 q.0) r (omega arith) ∙ sym (before_first floor q qs (min p.0 q.0) s (omega arith));
  same = λ no. absurd (none-some (min p.0 q.0) (sym no));
}

parts_cons : (p : ℕ × ℕ) (ps qs : List (ℕ × ℕ)) (r : Option ℕ) → Parts ps qs r → Parts (p ∷ ps) (p ∷ qs) r
parts_cons p ps qs None rest = record { least = cons_least p ps qs None rest.least; same_before = tt; same = λ no. ap (λ (xs : List (ℕ × ℕ)). p ∷ xs) (rest.same no) }
parts_cons p ps qs (Some t) rest = record { least = cons_least p ps qs (Some t) rest.least; same_before = before-cons_same t p ps qs rest.same_before; same = λ no. ap (λ (xs : List (ℕ × ℕ)). p ∷ xs) (rest.same no) }

same_pair : (p q : ℕ × ℕ) → p.0 ≡ q.0 → p.1 ≡ q.1 → p ≡ q
same_pair (a, b) (c, d) e f = cc

parts_step : (floor : ℕ) (p q : ℕ × ℕ) (ps qs : List (ℕ × ℕ)) → RisesFrom floor (p ∷ ps) → RisesFrom floor (q ∷ qs) → (b c : Bool) → nat_eq p.0 q.0 ≡ b → nat_eq p.1 q.1 ≡ c
    → (p.0 ≡ q.0 → Parts ps qs (parting ps qs)) → Parts (p ∷ ps) (q ∷ qs) (cond b (cond c (parting ps qs) (Some p.0)) (Some (min p.0 q.0)))
parts_step floor p q ps qs r s false c is_b is_c rest = parts_apart floor p q ps qs r s (λ e f. eqb-false p.0 q.0 is_b e)
parts_step floor p q ps qs r s true false is_b is_c rest =
    let at : min p.0 q.0 ≡ p.0 = omega (arith, eqb-true p.0 q.0 is_b) in
    subst (λ (t : ℕ). Parts (p ∷ ps) (q ∷ qs) (Some t)) at (parts_apart floor p q ps qs r s (λ e f. eqb-false p.1 q.1 is_c f))
parts_step floor p q ps qs r s true true is_b is_c rest =
    let first : p.0 ≡ q.0 = eqb-true p.0 q.0 is_b in
    subst (λ (x : ℕ × ℕ). Parts (p ∷ ps) (x ∷ qs) (parting ps qs)) (same_pair p q first (eqb-true p.1 q.1 is_c)) (parts_cons p ps qs (parting ps qs) (rest first))

pub parts : (floor : ℕ) (xs ys : List (ℕ × ℕ)) → RisesFrom floor xs → RisesFrom floor ys → Parts xs ys (parting xs ys)
parts floor [] [] r s = record { least = λ t differs. differs refl; same_before = tt; same = λ _. refl }
parts floor (p ∷ ps) [] r s = record { least = alone_least floor p ps r; same_before = before_first floor p ps p.0 r (omega arith); same = λ no. absurd (none-some p.0 (sym no)) }
parts floor [] (q ∷ qs) r s = record { least = least_same (Differs (q ∷ qs) []) (Differs [] (q ∷ qs)) (Some q.0) (differs_back (q ∷ qs) []) (differs_back [] (q ∷ qs)) (alone_least floor q qs s); same_before = sym (before_first floor q qs q.0 s (omega arith)); same = λ no. absurd (none-some q.0 (sym no)) }
parts floor (p ∷ ps) (q ∷ qs) r s =
    parts_step floor p q ps qs r s (nat_eq p.0 q.0) (nat_eq p.1 q.1) refl refl (λ e. parts p.0 ps qs r.2 (subst (λ (n : ℕ). RisesFrom n qs) (sym e) s.2))

among_left : (t : ℕ) (xs ys : List ℕ) → Among t xs → Among t (xs ++ ys)
among_left t [] ys a = absurd a
among_left t (x ∷ xs) ys a = ⊎_elim (λ (e : x ≡ t). inl e) (λ (b : Among t xs). inr (among_left t xs ys b)) a

among_right : (t : ℕ) (xs ys : List ℕ) → Among t ys → Among t (xs ++ ys)
among_right t [] ys a = a
among_right t (x ∷ xs) ys a = inr (among_right t xs ys a)

differs_among : (xs ys : List (ℕ × ℕ)) (t : ℕ) → Differs xs ys t → Among t (ticks xs ++ ticks ys)
differs_among xs ys t differs =
    ⊎_elim
    (λ (none : mass_at t xs ≡ 0). among_right t (ticks xs) (ticks ys) (mass_among t ys (λ empty. differs (none ∙ sym empty))))
    (λ (some : mass_at t xs ≡ 0 → ⊥). among_left t (ticks xs) (ticks ys) (mass_among t xs some))
    (cases_eq (mass_at t xs) 0)

pub parting_is : (xs ys : List (ℕ × ℕ)) → IsTime xs → IsTime ys → parting xs ys ≡ first_difference xs ys
parting_is xs ys r s =
    least_of_is (Differs xs ys) (λ t. not (mass_at t xs == mass_at t ys)) (ticks xs ++ ticks ys) (parting xs ys)
    (λ t differs. (not_from_false (mass_at t xs == mass_at t ys) (ne_eqb (mass_at t xs) (mass_at t ys) differs), differs_among xs ys t differs))
    (λ t e. eqb-false (mass_at t xs) (mass_at t ys) (not-true (mass_at t xs == mass_at t ys) e.0))
    (parts 0 xs ys r s).least

-- ---- a walk over both lists
apart_first : (p q : ℕ × ℕ) (rest : Option ℕ) (b c : Bool) → nat_eq p.0 q.0 ≡ b → nat_eq p.1 q.1 ≡ c → (b && c) ≡ false → cond b (cond c rest (Some p.0)) (Some (min p.0 q.0)) ≡ Some (min p.0 q.0)
apart_first p q rest true true is_b is_c apart = absurd (true≢false apart)
apart_first p q rest true false is_b is_c apart = ap (λ (n : ℕ). Some n) (let h : p.0 ≡ min p.0 q.0 = omega (arith, eqb-true p.0 q.0 is_b) in h)
apart_first p q rest false c is_b is_c apart = refl

parting_apart : (p q : ℕ × ℕ) (ps qs : List (ℕ × ℕ)) → ((p.0 == q.0) && (p.1 == q.1)) ≡ false → parting (p ∷ ps) (q ∷ qs) ≡ Some (min p.0 q.0)
parting_apart p q ps qs apart = apart_first p q (parting ps qs) (nat_eq p.0 q.0) (nat_eq p.1 q.1) refl refl apart

pub parting_both : (i : ℕ) (xs ys : List (ℕ × ℕ)) (p q : ℕ × ℕ) → i < length xs → i < length ys → p ≡ get_or xs i p → q ≡ get_or ys i q → ((p.0 == q.0) && (p.1 == q.1)) ≡ false
    → Some (min p.0 q.0) ≡ parting (drop i xs) (drop i ys)
parting_both i xs ys p q in_xs in_ys is_p is_q apart =
    sym (ap (λ (zs : List (ℕ × ℕ)). parting zs (drop i ys)) (drop_more xs i p in_xs)
    ∙ ap (λ (zs : List (ℕ × ℕ)). parting (get_or xs i p ∷ drop (i + 1) xs) zs) (drop_more ys i q in_ys)
    ∙ (rw (← is_p, ← is_q) (parting_apart p q (drop (i + 1) xs) (drop (i + 1) ys) apart)))

pub parting_left : (i : ℕ) (xs ys : List (ℕ × ℕ)) (p : ℕ × ℕ) → i < length xs → length ys ≤ i → p ≡ get_or xs i p → Some p.0 ≡ parting (drop i xs) (drop i ys)
parting_left i xs ys p in_xs end is_p =
    sym (ap (λ (zs : List (ℕ × ℕ)). parting zs (drop i ys)) (drop_more xs i p in_xs)
    ∙ ap (λ (zs : List (ℕ × ℕ)). parting (get_or xs i p ∷ drop (i + 1) xs) zs) (drop_all i ys end)
    ∙ ap (λ (z : ℕ × ℕ). Some z.0) (sym is_p))

pub parting_right : (i : ℕ) (xs ys : List (ℕ × ℕ)) (q : ℕ × ℕ) → length xs ≤ i → i < length ys → q ≡ get_or ys i q → Some q.0 ≡ parting (drop i xs) (drop i ys)
parting_right i xs ys q end in_ys is_q =
    sym (ap (λ (zs : List (ℕ × ℕ)). parting zs (drop i ys)) (drop_all i xs end)
    ∙ ap (λ (zs : List (ℕ × ℕ)). parting [] zs) (drop_more ys i q in_ys)
    ∙ ap (λ (z : ℕ × ℕ). Some z.0) (sym is_q))

pub parting_none : (i : ℕ) (xs ys : List (ℕ × ℕ)) → length xs ≤ i → length ys ≤ i → None ≡ parting (drop i xs) (drop i ys)
parting_none i xs ys end_xs end_ys =
    sym (ap (λ (zs : List (ℕ × ℕ)). parting zs (drop i ys)) (drop_all i xs end_xs)
    ∙ ap (λ (zs : List (ℕ × ℕ)). parting [] zs) (drop_all i ys end_ys))

-- ---- what is read of two histograms
none_is : (r : Option ℕ) → IsNone r → r ≡ None
none_is None h = refl
none_is (Some t) h = absurd (true≢false h)

none_from_same : (xs ys : List (ℕ × ℕ)) (r : Option ℕ) → LeastSuch (Differs xs ys) r → xs ≡ ys → IsNone r
none_from_same xs ys None least same = refl
none_from_same xs ys (Some t) least same = absurd (least.0 (ap (mass_at t) same))

-- the option is empty exactly where both times are equal, and below its tick they are
abbrev pub IsDifference : List (ℕ × ℕ) → List (ℕ × ℕ) → Option ℕ → Type 0
IsDifference one other r = (IsNone r ↔ (one ≡ other)) × IfSome r (λ t. before t one ≡ before t other)

parting_difference : (xs ys : List (ℕ × ℕ)) → IsTime xs → IsTime ys → IsDifference xs ys (parting xs ys)
parting_difference xs ys r s =
    let both = parts 0 xs ys r s in
    (((λ none. both.same (none_is (parting xs ys) none)), (λ same. none_from_same xs ys (parting xs ys) both.least same)), both.same_before)

pub is_difference : (xs ys one other : List (ℕ × ℕ)) (r : Option ℕ) → IsTime xs → IsTime ys → xs ≡ one → ys ≡ other → r ≡ first_difference xs ys → IsDifference one other r
is_difference xs ys one other r valid_xs valid_ys same_one same_other is =
    subst (λ (zs : List (ℕ × ℕ)). IsDifference zs other r) same_one
    (subst (λ (zs : List (ℕ × ℕ)). IsDifference xs zs r) same_other
    (subst (IsDifference xs ys) (parting_is xs ys valid_xs valid_ys ∙ sym is) (parting_difference xs ys valid_xs valid_ys)))
