-- Sums over the pairs of a travel time, in parts.
use Rattle.std.proofs.Common.{ℕ, zero, suc, ◌≡◌, ◌+◌, ◌-◌, ◌*◌, ◌<◌, ◌≤◌, List, [], ◌∷◌, length, slice_index, drop, refl, sym, ◌∙◌, ap, arith, ⊎_elim}
use Rattle.std.specs.List.{All}
use Rattle.std.proofs.lemmas.List.Elements.{All-nil, All-cons}
use Rattle.std.proofs.lemmas.List.Sums.{sum_by-cons}
use Rattle.std.proofs.lemmas.Bool.{lt-ltb, le-ltb, cases_lt, cases_eq}
use Rattle.std.proofs.lemmas.List.{get_or-set_other}
use Rattle.std.proofs.lemmas.Grind.{get_or-set_at}
use Rattle.std.proofs.Math.ListN.{set, length-set}
use Rattle.sota_hist.specs.Time.{RisesFrom, IsTime, total, within, least_tick, greatest_tick}
use Rattle.sota_network.specs.Grid.{weighed}
use Rattle.sota_sums.proofs.PairSums.{within-in, within-out, within_none, weighed-in, weighed-out, total-cons}
use Rattle.sota_sums.specs.Rows.{row_at}
use Rattle.sota_block.specs.Pairs.{pairs_sum}

-- a sum sees the pairs within its budget alone
pub weighed-within : (v : ℕ → ℕ) (t b : ℕ) (ps : List (ℕ × ℕ)) → t ≤ b → weighed v t (within b ps) ≡ weighed v t ps
weighed-within v t b [] h = refl
weighed-within v t b (p ∷ ps) h =
    let rest : weighed v t (within b ps) ≡ weighed v t ps = weighed-within v t b ps h in
    ⊎_elim
    (λ (late : b < p.0). let out : t < p.0 = omega arith in rw (within-out b p ps late, weighed-out v t p ps out) rest)
    (λ (kept : p.0 ≤ b).
    rw (within-in b p ps kept)
    (⊎_elim
    (λ (out : t < p.0). rw (weighed-out v t p (within b ps) out, weighed-out v t p ps out) rest)
    (λ (inside : p.0 ≤ t). rw (weighed-in v t p (within b ps) inside, weighed-in v t p ps inside, rest) refl)
    (cases_lt t p.0)))
    (cases_lt b p.0)

-- the pairs up to a tick, and those after them up to another
pub weighed-parts : (v : ℕ → ℕ) (t a b floor : ℕ) (ps : List (ℕ × ℕ)) → RisesFrom floor ps → a ≤ b → t ≤ b
    → weighed v t ps ≡ weighed v t (within a ps) + weighed v t (drop (length (within a ps)) (within b ps))
weighed-parts v t a b floor [] r h k = refl
weighed-parts v t a b floor (p ∷ ps) r h k =
    let rest : weighed v t ps ≡ weighed v t (within a ps) + weighed v t (drop (length (within a ps)) (within b ps)) = weighed-parts v t a b p.0 ps r.2 h k in
    ⊎_elim
    (λ (late : a < p.0).
    let none : within a (p ∷ ps) ≡ [] = within_none a a (p ∷ ps) (late, r.1, r.2) (omega arith) in
    let same : weighed v t (within b (p ∷ ps)) ≡ weighed v t (p ∷ ps) = weighed-within v t b (p ∷ ps) k in
    rw none (omega (arith, same)))
    (λ (early : p.0 ≤ a).
    let kept : p.0 ≤ b = omega arith in
    rw (within-in a p ps early, within-in b p ps kept)
    (⊎_elim
    (λ (out : t < p.0). rw (weighed-out v t p (within a ps) out, weighed-out v t p ps out) rest)
    (λ (inside : p.0 ≤ t). rw (weighed-in v t p (within a ps) inside, weighed-in v t p ps inside) (omega (arith, rest)))
    (cases_lt t p.0)))
    (cases_lt a p.0)

-- where all pairs are within the budget
pub weighed-whole : (row : List ℕ) (t a : ℕ) (ps : List (ℕ × ℕ)) → a ≤ t → weighed (λ u. slice_index row u) t (within a ps) ≡ pairs_sum row t (within a ps)
weighed-whole row t a [] h = refl
weighed-whole row t a (p ∷ ps) h =
    let rest : weighed (λ u. slice_index row u) t (within a ps) ≡ pairs_sum row t (within a ps) = weighed-whole row t a ps h in
    ⊎_elim
    (λ (late : a < p.0). rw (within-out a p ps late) rest)
    (λ (early : p.0 ≤ a).
    let inside : p.0 ≤ t = omega arith in
    rw (within-in a p ps early)
    (weighed-in (λ u. slice_index row u) t p (within a ps) inside
    ∙ ap (λ (n : ℕ). p.1 * slice_index row (t - p.0) + n) rest
    ∙ sym (sum_by-cons (λ (q : ℕ × ℕ). q.1 * slice_index row (t - q.0)) p (within a ps))))
    (cases_lt a p.0)

-- nothing is left out at the greatest tick
pub within-whole : (t : ℕ) (ps : List (ℕ × ℕ)) → greatest_tick ps ≤ t → within t ps ≡ ps
within-whole t [] h = refl
within-whole t (p ∷ ps) h =
    let rest : within t ps ≡ ps = within-whole t ps (omega arith) in
    within-in t p ps (omega arith) ∙ ap (λ (qs : List (ℕ × ℕ)). p ∷ qs) rest

-- what holds of all pairs within a tick
pub within-all : (t : ℕ) (ps : List (ℕ × ℕ)) → All (λ (p : ℕ × ℕ). p.0 ≤ t) (within t ps)
within-all t [] = All-nil (λ (p : ℕ × ℕ). p.0 ≤ t)
within-all t (p ∷ ps) =
    ⊎_elim
    (λ (late : t < p.0). rw (within-out t p ps late) (within-all t ps))
    (λ (early : p.0 ≤ t). rw (within-in t p ps early) (All-cons (λ (q : ℕ × ℕ). q.0 ≤ t) p (within t ps) early (within-all t ps)))
    (cases_lt t p.0)

within-above : (m floor t : ℕ) (ps : List (ℕ × ℕ)) → RisesFrom floor ps → m ≤ floor → All (λ (p : ℕ × ℕ). m ≤ p.0) (within t ps)
within-above m floor t [] r h = All-nil (λ (p : ℕ × ℕ). m ≤ p.0)
within-above m floor t (p ∷ ps) r h =
    let up : m ≤ p.0 = omega (arith, r.0) in
    ⊎_elim
    (λ (late : t < p.0). rw (within-out t p ps late) (within-above m p.0 t ps r.2 up))
    (λ (early : p.0 ≤ t). rw (within-in t p ps early) (All-cons (λ (q : ℕ × ℕ). m ≤ q.0) p (within t ps) up (within-above m p.0 t ps r.2 up)))
    (cases_lt t p.0)

pub within-least : (t : ℕ) (ps : List (ℕ × ℕ)) → IsTime ps → All (λ (p : ℕ × ℕ). least_tick ps ≤ p.0) (within t ps)
within-least t [] r = All-nil (λ (p : ℕ × ℕ). 0 ≤ p.0)
within-least t (p ∷ ps) r =
    let same : p.0 ≤ p.0 = omega arith in
    ⊎_elim
    (λ (late : t < p.0). rw (within-out t p ps late) (within-above p.0 p.0 t ps r.2 same))
    (λ (early : p.0 ≤ t). rw (within-in t p ps early) (All-cons (λ (q : ℕ × ℕ). p.0 ≤ q.0) p (within t ps) same (within-above p.0 p.0 t ps r.2 same)))
    (cases_lt t p.0)

pub total-within : (t : ℕ) (ps : List (ℕ × ℕ)) → total (within t ps) ≤ total ps
total-within t [] = omega arith
total-within t (p ∷ ps) =
    let rest : total (within t ps) ≤ total ps = total-within t ps in
    ⊎_elim
    (λ (late : t < p.0). rw (within-out t p ps late) (omega (arith, total-cons p ps)))
    (λ (early : p.0 ≤ t). rw (within-in t p ps early) (omega (arith, total-cons p ps, total-cons p (within t ps))))
    (cases_lt t p.0)

pub total-drop : (n : ℕ) (ps : List (ℕ × ℕ)) → total (drop n ps) ≤ total ps
total-drop zero ps = omega arith
total-drop (suc n) [] = omega arith
total-drop (suc n) (p ∷ ps) = omega (arith, total-drop n ps, total-cons p ps)

-- fewer pairs up to an earlier tick
pub within-length : (a b : ℕ) (ps : List (ℕ × ℕ)) → a ≤ b → length (within a ps) ≤ length (within b ps)
within-length a b [] h = omega arith
within-length a b (p ∷ ps) h =
    let rest : length (within a ps) ≤ length (within b ps) = within-length a b ps h in
    ⊎_elim
    (λ (late : a < p.0).
    rw (within-out a p ps late)
    (⊎_elim
    (λ (later : b < p.0). rw (within-out b p ps later) rest)
    (λ (kept : p.0 ≤ b). rw (within-in b p ps kept) (omega arith))
    (cases_lt b p.0)))
    (λ (early : p.0 ≤ a). let kept : p.0 ≤ b = omega arith in rw (within-in a p ps early, within-in b p ps kept) (omega arith))
    (cases_lt a p.0)

-- a sum at eight places is that of the pairs up to the first, and of those up to the last
pub tile-sum : (row : List ℕ) (at j : ℕ) (time : List (ℕ × ℕ)) → IsTime time → j < 8
    → weighed (λ u. slice_index row u) (at + j) time
    ≡ pairs_sum row (at + j) (within at time) + weighed (λ u. slice_index row u) (at + j) (drop (length (within at time)) (within (at + 7) time))
tile-sum row at j time r h =
    let first : at ≤ at + 7 = omega arith in
    let last : at + j ≤ at + 7 = omega arith in
    let here : at ≤ at + j = omega arith in
    weighed-parts (λ u. slice_index row u) (at + j) at (at + 7) 0 time r first last
    ∙ ap (λ (n : ℕ). n + weighed (λ u. slice_index row u) (at + j) (drop (length (within at time)) (within (at + 7) time))) (weighed-whole row (at + j) at time here)

-- ---- rows from a base on
row_at-below : (row : List ℕ) (base t : ℕ) → t < base → row_at row base t ≡ 0
row_at-below row base t h = rw (lt-ltb t base h) refl

row_at-above : (row : List ℕ) (base t : ℕ) → base ≤ t → row_at row base t ≡ slice_index row (t - base)
row_at-above row base t h = rw (le-ltb t base h) refl

pub sum-below : (row : List ℕ) (base t floor : ℕ) (ps : List (ℕ × ℕ)) → RisesFrom floor ps → t ≤ base → weighed (row_at row base) t ps ≡ 0
sum-below row base t floor [] r h = refl
sum-below row base t floor (p ∷ ps) r h =
    let rest : weighed (row_at row base) t ps ≡ 0 = sum-below row base t p.0 ps r.2 h in
    ⊎_elim
    (λ (out : t < p.0). rw (weighed-out (row_at row base) t p ps out) rest)
    (λ (inside : p.0 ≤ t).
    let early : t - p.0 < base = omega (arith, r.0) in
    let none : row_at row base (t - p.0) ≡ 0 = row_at-below row base (t - p.0) early in
    let product : p.1 * row_at row base (t - p.0) ≡ 0 = ap (λ (n : ℕ). p.1 * n) none ∙ omega arith in
    let step : weighed (row_at row base) t (p ∷ ps) ≡ p.1 * row_at row base (t - p.0) + weighed (row_at row base) t ps = weighed-in (row_at row base) t p ps inside in
    omega arith)
    (cases_lt t p.0)

pub sum-above : (row : List ℕ) (base t : ℕ) (ps : List (ℕ × ℕ)) → base ≤ t → weighed (row_at row base) t ps ≡ weighed (λ u. slice_index row u) (t - base) ps
sum-above row base t [] h = refl
sum-above row base t (p ∷ ps) h =
    let v : ℕ → ℕ = row_at row base in
    let w : ℕ → ℕ = λ u. slice_index row u in
    let rest : weighed v t ps ≡ weighed w (t - base) ps = sum-above row base t ps h in
    ⊎_elim
    (λ (out : t < p.0). let out' : t - base < p.0 = omega arith in weighed-out v t p ps out ∙ rest ∙ sym (weighed-out w (t - base) p ps out'))
    (λ (inside : p.0 ≤ t).
    ⊎_elim
    (λ (late : t - base < p.0).
    let early : t - p.0 < base = omega arith in
    let product : p.1 * v (t - p.0) ≡ 0 = ap (λ (n : ℕ). p.1 * n) (row_at-below row base (t - p.0) early) ∙ omega arith in
    let step : weighed v t (p ∷ ps) ≡ p.1 * v (t - p.0) + weighed v t ps = weighed-in v t p ps inside in
    let none : weighed v t (p ∷ ps) ≡ weighed w (t - base) ps = omega arith in
    none ∙ sym (weighed-out w (t - base) p ps late))
    (λ (kept : p.0 ≤ t - base).
    let up : base ≤ t - p.0 = omega arith in
    let place : t - p.0 - base ≡ t - base - p.0 = omega arith in
    let value : v (t - p.0) ≡ w (t - base - p.0) = row_at-above row base (t - p.0) up ∙ ap w place in
    weighed-in v t p ps inside ∙ ap (λ (n : ℕ). p.1 * n + weighed v t ps) value ∙ ap (λ (n : ℕ). p.1 * w (t - base - p.0) + n) rest ∙ sym (weighed-in w (t - base) p ps kept))
    (cases_lt (t - base) p.0))
    (cases_lt t p.0)

-- ---- places that are filled one by one
pub record IsFilled (f g : ℕ → ℕ) (count j : ℕ) (into : List ℕ) : Type 0 where
  pub room : length into ≡ count
  pub done : (x : ℕ) → x < j → slice_index into x ≡ f x
  pub left : (x : ℕ) → j ≤ x → x < count → slice_index into x ≡ g x

pub IsFilled-next : (f g : ℕ → ℕ) (count j v : ℕ) (into : List ℕ) → j < count → v ≡ f j → IsFilled f g count j into → IsFilled f g count (j + 1) (set into j v)
IsFilled-next f g count j v into h is filled = record {
  room = length-set into j v ∙ filled.room;
  done = λ x less.
      ⊎_elim
      (λ (here : x ≡ j). get_or-set_at into j x v 0 here (omega (arith, filled.room)) ∙ is ∙ ap f (sym here))
      (λ (off : x ≡ j → ⊥). get_or-set_other into j x v 0 off ∙ filled.done x (omega arith))
      (cases_eq x j);
  left = λ x up less.
      let off : x ≡ j → ⊥ = λ e. omega arith in
      get_or-set_other into j x v 0 off ∙ filled.left x (omega arith) less;
}

-- ---- the pairs that come up to the last of eight places, but not to the first
pub edge-few : (at most : ℕ) (time front late edge : List (ℕ × ℕ)) → total time ≤ most → front ≡ within at time → late ≡ within (at + 7) time → edge ≡ drop (length front) late → total edge ≤ most
edge-few at most time front late edge few a b e =
    let part : total (drop (length front) late) ≤ total late = total-drop (length front) late in
    let whole : total (within (at + 7) time) ≤ total time = total-within (at + 7) time in
    let same : total late ≡ total (within (at + 7) time) = ap total b in
    let here : total edge ≡ total (drop (length front) late) = ap total e in
    omega arith

pub edge-sum : (row : List ℕ) (at j was more : ℕ) (time front late edge : List (ℕ × ℕ)) → IsTime time → j < 8 → front ≡ within at time → late ≡ within (at + 7) time → edge ≡ drop (length front) late
    → was ≡ pairs_sum row (at + j) (within at time) → more ≡ weighed (λ u. slice_index row u) (at + j) edge → was + more ≡ weighed (λ u. slice_index row u) (at + j) time
edge-sum row at j was more time front late edge r h a b e is-was is-more =
    let parts : weighed (λ u. slice_index row u) (at + j) time ≡ pairs_sum row (at + j) (within at time) + weighed (λ u. slice_index row u) (at + j) (drop (length (within at time)) (within (at + 7) time)) =
    tile-sum row at j time r h in
    let is-edge : edge ≡ drop (length (within at time)) (within (at + 7) time) = e ∙ ap (λ (xs : List (ℕ × ℕ)). drop (length xs) late) a ∙ ap (drop (length (within at time))) b in
    let more-is : more ≡ weighed (λ u. slice_index row u) (at + j) (drop (length (within at time)) (within (at + 7) time)) = is-more ∙ ap (weighed (λ u. slice_index row u) (at + j)) is-edge in
    omega arith

edge-none : (xs : List (ℕ × ℕ)) → length xs ≡ 0 → xs ≡ []
edge-none [] h = refl
edge-none (x ∷ xs) h = absurd (omega arith)

pub no-edge : (row : List ℕ) (at j was : ℕ) (time front late edge : List (ℕ × ℕ)) → IsTime time → j < 8 → front ≡ within at time → late ≡ within (at + 7) time → edge ≡ drop (length front) late → length edge ≡ 0
    → was ≡ pairs_sum row (at + j) (within at time) → was ≡ weighed (λ u. slice_index row u) (at + j) time
no-edge row at j was time front late edge r h a b e none is-was =
    let zero-sum : 0 ≡ weighed (λ u. slice_index row u) (at + j) edge = sym (ap (weighed (λ u. slice_index row u) (at + j)) (edge-none edge none)) in
    let whole : was + 0 ≡ weighed (λ u. slice_index row u) (at + j) time = edge-sum row at j was 0 time front late edge r h a b e is-was zero-sum in
    omega arith
