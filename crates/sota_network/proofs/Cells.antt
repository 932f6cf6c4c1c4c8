-- The region by least times: its pairs at a node, and the need.
use Rattle.std.proofs.Common.{ℕ, zero, suc, ◌≡◌, ◌≢◌, ◌+◌, ◌-◌, ◌<◌, ◌≤◌, Bool, true, false, cond, min, max, ◌&&◌, nat_le, List, ◌∷◌, map, Option, None, Some, refl, sym, ◌∙◌, arith, ⊎_elim}
use Rattle.std.specs.List.{count_by, filter, range_with_len}
use Rattle.std.proofs.lemmas.Bool.{cases_lt, cases_Bool, eq-eqb, ne_eqb, le-leb, lt-leb}
use Rattle.std.proofs.lemmas.List.Sums.{sum_by-cons}
use Rattle.sota_network.specs.Network.{Net, IsNet}
use Rattle.sota_network.specs.Grid.{greatest}
use Rattle.sota_network.specs.Walks.{IsLeastTime}
use Rattle.sota_network.specs.Reach.{reaches, in_region}
use Rattle.sota_network.specs.Region.{pairs_at, need, is_between, pairs_between, need_between}
use Rattle.sota_network.proofs.Reaching.{reach-walk, walk-reaches}

-- ---- numbers that pass a test exactly from l up to h
pub record PassesBetween (test : ℕ → Bool) (l h : ℕ) : Type 0 where
  pub inside : (t : ℕ) → l ≤ t → t < h → test t ≡ true
  pub under : (t : ℕ) → t < l → test t ≡ false
  pub over : (t : ℕ) → h ≤ t → test t ≡ false

counted-cons : (test : ℕ → Bool) (x : ℕ) (xs : List ℕ) → count_by test (x ∷ xs) ≡ cond (test x) 1 0 + count_by test xs
counted-cons test x xs = sum_by-cons (λ (y : ℕ). cond (test y) 1 0) x xs

pub counted-between : (test : ℕ → Bool) (l h : ℕ) → PassesBetween test l h → (a n : ℕ) → count_by test (range_with_len a n) ≡ min (a + n) h - max a l
counted-between test l h are a zero = omega arith
counted-between test l h are a (suc n) =
    let rest : count_by test (range_with_len (a + 1) n) ≡ min (a + 1 + n) h - max (a + 1) l = counted-between test l h are (a + 1) n in
    ⊎_elim
    (λ (low : a < l). counted-cons test a (range_with_len (a + 1) n) ∙ (rw (are.under a low, rest) (omega arith)))
    (λ (from : l ≤ a).
    ⊎_elim
    (λ (upto : a < h). counted-cons test a (range_with_len (a + 1) n) ∙ (rw (are.inside a from upto, rest) (omega arith)))
    (λ (high : h ≤ a). counted-cons test a (range_with_len (a + 1) n) ∙ (rw (are.over a high, rest) (omega arith)))
    (cases_lt a h))
    (cases_lt a l)

-- one more than the greatest that passes
top : (ℕ → Bool) → ℕ → ℕ → ℕ
top test a n = greatest (map suc (filter test (range_with_len a n)))

pub record IsTop (l h a n : ℕ) (top : ℕ) : Type 0 where
  pub some : max a l < min (a + n) h → top ≡ min (a + n) h
  pub never : min (a + n) h ≤ max a l → top ≡ 0

pub top-between : (test : ℕ → Bool) (l h : ℕ) → PassesBetween test l h → (a n : ℕ) → IsTop l h a n (greatest (map suc (filter test (range_with_len a n))))
top-between test l h are a zero = record { some = λ s. absurd (omega arith); never = λ s. refl }
top-between test l h are a (suc n) =
    let rest = top-between test l h are (a + 1) n in
    let next : ℕ = greatest (map suc (filter test (range_with_len (a + 1) n))) in
    let skip : (test a ≡ false) → IsTop l h a (suc n) next → IsTop l h a (suc n) (greatest (map suc (filter test (range_with_len a (suc n))))) = λ fails is. rw fails is in
    ⊎_elim
    (λ (low : a < l). skip (are.under a low) (record { some = λ s. rest.some (omega arith) ∙ (let e : min (a + 1 + n) h ≡ min (a + suc n) h = omega arith in e); never = λ s. rest.never (omega arith) }))
    (λ (from : l ≤ a).
    ⊎_elim
    (λ (upto : a < h).
    rw (are.inside a from upto)
    (record {
      some = λ s.
          ⊎_elim
          (λ (more : a + 1 < min (a + 1 + n) h). let e : next ≡ min (a + 1 + n) h = rest.some (omega arith) in (let z : max (suc a) next ≡ min (a + suc n) h = omega arith in z))
          (λ (last : min (a + 1 + n) h ≤ a + 1). let e : next ≡ 0 = rest.never (omega arith) in (let z : max (suc a) next ≡ min (a + suc n) h = omega arith in z))
          (cases_lt (a + 1) (min (a + 1 + n) h));
      never = λ s. absurd (omega arith);
    }))
    (λ (high : h ≤ a). skip (are.over a high) (record { some = λ s. absurd (omega arith); never = λ s. rest.never (omega arith) }))
    (cases_lt a h))
    (cases_lt a l)

-- ---- reaching by the least time
abbrev pub in_time : Option ℕ → ℕ → Bool
in_time None t = false
in_time (Some n) t = nat_le n t

not-reached : (b : Bool) → (b ≡ true → ⊥) → b ≡ false
not-reached true none = absurd (none refl)
not-reached false none = refl

pub reaches-least : (net : Net) → IsNet net → (dest i j t : ℕ) (found : Option ℕ) → IsLeastTime net dest i j found → reaches net dest j i t ≡ in_time found t
reaches-least net valid dest i j t None never =
    not-reached (reaches net dest j i t) (λ sure. let walk = reach-walk net valid dest j i t sure in never walk.0 walk.1)
reaches-least net valid dest i j t (Some n) is =
    ⊎_elim
    (λ (early : t < n).
    not-reached (reaches net dest j i t) (λ sure.
    let walk = reach-walk net valid dest j i t sure in
    let low : n ≤ walk.0 = is.least walk.0 walk.1 in
    omega (arith, walk.2))
    ∙ sym (lt-leb n t early))
    (λ (done : n ≤ t). walk-reaches net valid dest is.walk t done ∙ sym (le-leb n t done))
    (cases_lt t n)

left_over : (last from t : ℕ) → (nat_le t last && nat_le from (last - t)) ≡ nat_le (t + from) last
left_over last from t =
    ⊎_elim
    (λ (late : last < t). rw (lt-leb t last late, (let h : last < t + from = omega arith in lt-leb (t + from) last h)) refl)
    (λ (early : t ≤ last).
    ⊎_elim
    (λ (out : last - t < from). rw (le-leb t last early, lt-leb from (last - t) out, (let h : last < t + from = omega arith in lt-leb (t + from) last h)) refl)
    (λ (fits : from ≤ last - t). rw (le-leb t last early, le-leb from (last - t) fits, (let h : t + from ≤ last = omega arith in le-leb (t + from) last h)) refl)
    (cases_lt (last - t) from))
    (cases_lt last t)

and_false : (a b : Bool) → (a && (b && false)) ≡ false
and_false true true = refl
and_false true false = refl
and_false false b = refl

and_turn : (a b c d : Bool) → (a && c) ≡ d → (a && (b && c)) ≡ (b && d)
and_turn true true c d e = e
and_turn true false c d e = refl
and_turn false true c d e = e
and_turn false false c d e = refl

between-is : (last t : ℕ) (to from : Option ℕ) → (nat_le t last && (in_time to t && in_time from (last - t))) ≡ is_between last to from t
between-is last t (Some to) (Some from) = and_turn (nat_le t last) (nat_le to t) (nat_le from (last - t)) (nat_le (t + from) last) (left_over last from t)
between-is last t (Some to) None = and_false (nat_le t last) (nat_le to t)
between-is last t None (Some from) = ⊎_elim (λ yes. rw yes refl) (λ no. rw no refl) (cases_Bool (nat_le t last))
between-is last t None None = ⊎_elim (λ yes. rw yes refl) (λ no. rw no refl) (cases_Bool (nat_le t last))

module _ (net : Net) (valid : IsNet net) (origin dest last i : ℕ) (to from : Option ℕ) (off : i ≢ dest) (onward : IsLeastTime net dest i dest to) (back : IsLeastTime net dest origin i from) where
  pub inside-is : (t : ℕ) → in_region net origin dest last i t ≡ is_between last to from t
  inside-is t =
      rw (ne_eqb i dest off, reaches-least net valid dest i dest t to onward, reaches-least net valid dest origin i (last - t) from back) (between-is last t to from)

-- a test that gives what `is_between` does passes from the time to the destination up to what the
-- time from the origin leaves
passes-some : (test : ℕ → Bool) (last to from : ℕ) → ((t : ℕ) → test t ≡ is_between last (Some to) (Some from) t) → PassesBetween test to (last + 1 - from)
passes-some test last to from is = record {
  inside = λ t low high. is t ∙ (rw (le-leb to t low, (let h : t + from ≤ last = omega arith in le-leb (t + from) last h)) refl);
  under = λ t low. is t ∙ (rw (lt-leb to t low) refl);
  over = λ t high. is t ∙ (let h : last < t + from = omega arith in
      ⊎_elim (λ (early : t < to). rw (lt-leb to t early) refl) (λ (done : to ≤ t). rw (le-leb to t done, lt-leb (t + from) last h) refl) (cases_lt t to));
}

passes-none : (test : ℕ → Bool) → ((t : ℕ) → test t ≡ false) → PassesBetween test 0 0
passes-none test fails = record { inside = λ t low high. absurd (omega arith); under = λ t low. fails t; over = λ t high. fails t }

counted-none : (test : ℕ → Bool) (last : ℕ) → ((t : ℕ) → test t ≡ false) → count_by test (range_with_len 0 (last + 1)) ≡ 0
counted-none test last fails = counted-between test 0 0 (passes-none test fails) 0 (last + 1) ∙ (let e : min (0 + (last + 1)) 0 - max 0 0 ≡ 0 = omega arith in e)

top-none : (test : ℕ → Bool) (last : ℕ) → ((t : ℕ) → test t ≡ false) → greatest (map suc (filter test (range_with_len 0 (last + 1)))) ≡ 0
top-none test last fails = (top-between test 0 0 (passes-none test fails) 0 (last + 1)).never (omega arith)

pub counted-is : (test : ℕ → Bool) (last : ℕ) (to from : Option ℕ) → ((t : ℕ) → test t ≡ is_between last to from t) → count_by test (range_with_len 0 (last + 1)) ≡ pairs_between last to from
counted-is test last (Some to) (Some from) is =
    counted-between test to (last + 1 - from) (passes-some test last to from is) 0 (last + 1)
    ∙ (let e : min (0 + (last + 1)) (last + 1 - from) - max 0 to ≡ last + 1 - (to + from) = omega arith in e)
counted-is test last (Some to) None is = counted-none test last is
counted-is test last None (Some from) is = counted-none test last is
counted-is test last None None is = counted-none test last is

pub top-is : (test : ℕ → Bool) (last : ℕ) (to from : Option ℕ) → ((t : ℕ) → test t ≡ is_between last to from t) → greatest (map suc (filter test (range_with_len 0 (last + 1)))) ≡ need_between last to from
top-is test last (Some to) (Some from) is =
    let best = top-between test to (last + 1 - from) (passes-some test last to from is) 0 (last + 1) in
    ⊎_elim
    (λ (out : last < to + from). best.never (omega arith) ∙ (rw (lt-leb (to + from) last out) refl))
    (λ (fits : to + from ≤ last).
    best.some (omega arith) ∙ (let e : min (0 + (last + 1)) (last + 1 - from) ≡ last + 1 - from = omega arith in e) ∙ (rw (le-leb (to + from) last fits) refl))
    (cases_lt last (to + from))
top-is test last (Some to) None is = top-none test last is
top-is test last None (Some from) is = top-none test last is
top-is test last None None is = top-none test last is

module _ (net : Net) (valid : IsNet net) (origin dest last i : ℕ) (to from : Option ℕ) (off : i ≢ dest) (onward : IsLeastTime net dest i dest to) (back : IsLeastTime net dest origin i from) where
  pub pairs-is : pairs_at net origin dest last i ≡ pairs_between last to from
  unfolding pairs_at
  pairs-is = counted-is (λ t. in_region net origin dest last i t) last to from (inside-is net valid origin dest last i to from off onward back)

  pub need-is : need net origin dest last i ≡ need_between last to from
  unfolding need
  need-is = top-is (λ t. in_region net origin dest last i t) last to from (inside-is net valid origin dest last i to from off onward back)

module _ (net : Net) (origin dest last : ℕ) where
  outside : (t : ℕ) → in_region net origin dest last dest t ≡ false
  outside t = rw (eq-eqb dest dest refl) refl

  pub pairs-dest : pairs_at net origin dest last dest ≡ 0
  unfolding pairs_at
  pairs-dest = counted-none (λ t. in_region net origin dest last dest t) last outside

  pub need-dest : need net origin dest last dest ≡ 0
  unfolding need
  need-dest = top-none (λ t. in_region net origin dest last dest t) last outside
