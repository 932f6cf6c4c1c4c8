-- Tables of one row for each budget, and what the plain planner reads from them and adds to them.
use Rattle.std.proofs.Common.{ℕ, zero, suc, ◌≡◌, ◌+◌, ◌-◌, ◌*◌, ◌<◌, ◌≤◌, List, [], ◌∷◌, ◌++◌, length, get_or, sym, ◌∙◌, ap, arith, ⊎_elim, length-append}
use Rattle.std.proofs.lemmas.List.{get_or_default, get_or_append_left, get_or-append-add}
use Rattle.std.proofs.lemmas.Bool.{cases_lt}
use Rattle.std.proofs.Math.Nat.{mul-le-mul_right}
use Rattle.sota_hist.specs.Time.{IsTime, RisesFrom}
use Rattle.sota_network.specs.Numbers.{listed}
use Rattle.sota_network.specs.GridView.{place, in_table}
use Rattle.sota_network.proofs.Listed.{length-listed, listed-at}

-- the table has an entry for each node at each budget below t, and it is the value of f
pub record Filled {X : Type 0} (none : X) (items : List X) (nodes t : ℕ) (f : ℕ → ℕ → X) : Type 0 where
  pub count : length items ≡ t * nodes
  pub entry : (i u : ℕ) → 1 ≤ i → i ≤ nodes → u < t → get_or items (place nodes i u) none ≡ f i u

pub filled-none : {X : Type 0} (none : X) (nodes : ℕ) (f : ℕ → ℕ → X) → Filled none [] nodes 0 f
filled-none none nodes f = record { count = omega arith; entry = λ i u low high less. absurd (omega arith) }

-- a table with one row more
pub filled-more : {X : Type 0} (none : X) (items : List X) (n t : ℕ) (f : ℕ → ℕ → X) (g : ℕ → X) → Filled none items n t f → ((i : ℕ) → 1 ≤ i → i ≤ n → g i ≡ f i t)
    → Filled none (items ++ listed g n) n (t + 1) f
filled-more none items n t f g filled agree = record {
  count = length-append items (listed g n) ∙ (let y : length items + length (listed g n) ≡ (t + 1) * n = omega (arith, filled.count, length-listed g n) in y);
  entry = λ i u low high less.
      ⊎_elim
      (λ (before : u < t).
      let inside : (u + 1) * n ≤ t * n = mul-le-mul_right n (let y : u + 1 ≤ t = omega arith in y) in
      let within : place n i u < length items = omega (arith, filled.count) in
      get_or_append_left items (listed g n) none (place n i u) within ∙ filled.entry i u low high before)
      (λ (now : t ≤ u).
      let same : u ≡ t = omega arith in
      let at : place n i u ≡ length items + (i - 1) = rw same (let y : t * n + (i - 1) ≡ length items + (i - 1) = omega (arith, filled.count) in y) in
      ap (λ (k : ℕ). get_or (items ++ listed g n) k none) at ∙ get_or-append-add items (listed g n) (i - 1) none ∙ listed-at g n i none low high ∙ agree i low high ∙ ap (f i) (sym same))
      (cases_lt u t);
}

rises-at : (floor : ℕ) (ps : List (ℕ × ℕ)) (k : ℕ) (d : ℕ × ℕ) → RisesFrom floor ps → k < length ps → floor < (get_or ps k d).0
rises-at floor [] k d r h = absurd (omega arith)
rises-at floor (p ∷ ps) zero d r h = r.0
rises-at floor (p ∷ ps) (suc k) d r h =
    let more : p.0 < (get_or ps k d).0 = rises-at p.0 ps k d r.2 (omega arith) in
    omega (arith, r.0)

-- each tick is at least 1, so a sum reads only earlier rows
pub tick-positive : (ps : List (ℕ × ℕ)) (k : ℕ) (p : ℕ × ℕ) → IsTime ps → k < length ps → p ≡ get_or ps k p → 1 ≤ p.0
tick-positive ps k p r h is =
    let above : 0 < (get_or ps k p).0 = rises-at 0 ps k p r h in
    let same : p.0 ≡ (get_or ps k p).0 = ap (λ (q : ℕ × ℕ). q.0) is in
    omega arith

-- an earlier place of a column is within the table
pub place-below : (n i u t : ℕ) → 1 ≤ i → i ≤ n → u < t → place n i u < t * n
place-below n i u t low high less =
    let row : (u + 1) * n ≤ t * n = mul-le-mul_right n (let y : u + 1 ≤ t = omega arith in y) in
    omega arith

-- what was read at an entry's place is the entry
pub table-read : (values : List ℕ) (n i u k x : ℕ) → x ≡ get_or values k x → k ≡ place n i u → k < length values → x ≡ in_table values n i u
table-read values n i u k x is at within =
    is ∙ get_or_default values k x 0 within ∙ ap (λ (m : ℕ). get_or values m 0) at
