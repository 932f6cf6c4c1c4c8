-- The first three steps of an ask, and its needs.
use Rattle.std.proofs.Common.{ℕ, zero, suc, ◌≡◌, ◌≢◌, ◌+◌, ◌-◌, ◌<◌, ◌≤◌, ◌⊎◌, inl, inr, max, Bool, true, false, not, ◌&&◌, ◌==◌, nat_le, List, [], ◌∷◌, length, get_or, map, Some, refl, sym, ◌∙◌, ap, arith, ⊎_elim, subst}
use Rattle.std.specs.List.{filter, range_with_len}
use Rattle.std.proofs.lemmas.Bool.{cases_lt, cases_Bool, le-leb, lt-leb, leb-true, and_parts, eqb-false, not-true, true≢false}
use Rattle.std.proofs.lemmas.List.FromFn.{length-range_with_len, get_or-range_with_len}
use Rattle.sota_hist.specs.Time.{is_closed, least_tick}
use Rattle.sota_network.specs.Network.{Net, arc_at}
use Rattle.sota_units.specs.Limits.{BUDGET_LIMIT}
use Rattle.sota_network.specs.Grid.{greatest}
use Rattle.sota_network.specs.Reach.{reaches, in_region}
use Rattle.sota_network.specs.Region.{need}
use Rattle.sota_network.specs.declared.network.Arc.{Arc}
use Rattle.sota_network.specs.Reads.{Reads}
use Rattle.sota_kept.specs.Ticks.{END_LIMIT, least_to}
use Rattle.sota_kept.specs.NodeTables.{NodeTable, IsKeptAt, IsReadyAt, IsGrownAt, known_end, emptied_table, rebased_table, prepared_table}
use Rattle.sota_kept.proofs.Counting.{ticks-reach}
use Rattle.sota_kept.proofs.Standing.{kept-emptied_table, settled-rebased_table}
use Rattle.sota_kept.specs.Laws.{Lawful}
use Rattle.sota_kept.proofs.Networks.{open-first}

-- ---- the steps
pub ready-rebased_table : (net : Net) → Lawful net → (dest i : ℕ) (s : NodeTable) → IsKeptAt net dest i s → IsReadyAt net dest i (rebased_table (least_to net dest i) s)
ready-rebased_table net valid dest i s is =
    let c : ℕ = least_to net dest i in
    record {
      settled = settled-rebased_table net valid dest i s is;
      based =
          ⊎_elim
          (λ (above : c < s.front). rw (lt-leb s.front c above) (λ (under : s.front ≤ c). absurd (omega arith)))
          (λ (below : s.front ≤ c). rw (le-leb s.front c below) (λ (under : s.front ≤ c). refl))
          (cases_lt c s.front);
    }

-- what is kept, or what begins afresh
abbrev pub MayKeep : Net → ℕ → ℕ → Bool → NodeTable → Type 0
MayKeep net dest i true s = s.base ≤ END_LIMIT
MayKeep net dest i false s = IsKeptAt net dest i s

pub ready-prepared : (net : Net) → Lawful net → (dest i : ℕ) (fresh over : Bool) (s : NodeTable) → MayKeep net dest i fresh s → IsReadyAt net dest i (prepared_table fresh over (least_to net dest i) s)
ready-prepared net valid dest i true true s limit =
    let one = ready-rebased_table net valid dest i (emptied_table s) (kept-emptied_table net dest i s limit) in
    ready-rebased_table net valid dest i (emptied_table (rebased_table (least_to net dest i) (emptied_table s))) (kept-emptied_table net dest i (rebased_table (least_to net dest i) (emptied_table s)) one.settled.kept.shape.base)
ready-prepared net valid dest i true false s limit = ready-rebased_table net valid dest i (emptied_table s) (kept-emptied_table net dest i s limit)
ready-prepared net valid dest i false true s is =
    let one = ready-rebased_table net valid dest i s is in
    ready-rebased_table net valid dest i (emptied_table (rebased_table (least_to net dest i) s)) (kept-emptied_table net dest i (rebased_table (least_to net dest i) s) one.settled.kept.shape.base)
ready-prepared net valid dest i false false s is = ready-rebased_table net valid dest i s is

-- the base is not above the least time
pub ready-based : (net : Net) (dest i : ℕ) (s : NodeTable) → IsReadyAt net dest i s → s.base ≤ least_to net dest i
ready-based net dest i s is =
    let c : ℕ = least_to net dest i in
    ⊎_elim
    (λ (above : c < s.front). ⊎_elim (λ (h : s.base ≤ c). h) (λ (h : s.front ≤ c). absurd (omega arith)) is.settled.kept.least)
    (λ (under : s.front ≤ c). (let z : s.base ≡ c = is.based under in omega arith))
    (cases_lt c s.front)

-- ---- needs
-- the greatest of these is 0, or one more than a number that passes
top-some : (test : ℕ → Bool) (xs : List ℕ) → (greatest (map suc (filter test xs)) ≡ 0) ⊎ ((t : ℕ) × (test t ≡ true) × (greatest (map suc (filter test xs)) ≡ suc t))
top-some test [] = inl refl
top-some test (x ∷ xs) =
    let rest : ℕ = greatest (map suc (filter test xs)) in
    ⊎_elim
    (λ (passes : test x ≡ true).
    rw passes
    (⊎_elim
    (λ (none : rest ≡ 0). inr (x, passes, (let z : max (suc x) rest ≡ suc x = omega arith in z)))
    (λ (some : (t : ℕ) × (test t ≡ true) × (rest ≡ suc t)).
    ⊎_elim
    (λ (less : x < some.0). inr (some.0, some.1, (let z : max (suc x) rest ≡ suc some.0 = omega (arith, some.2) in z)))
    (λ (more : some.0 ≤ x). inr (x, passes, (let z : max (suc x) rest ≡ suc x = omega (arith, some.2) in z)))
    (cases_lt x some.0))
    (top-some test xs)))
    (λ (fails : test x ≡ false). rw fails (top-some test xs))
    (cases_Bool (test x))

-- one more than a number that passes is at most the greatest
top-all : (test : ℕ → Bool) (xs : List ℕ) (k d : ℕ) → k < length xs → test (get_or xs k d) ≡ true → suc (get_or xs k d) ≤ greatest (map suc (filter test xs))
top-all test [] k d h passes = absurd (omega arith)
top-all test (x ∷ xs) zero d h passes = rw passes (omega arith)
top-all test (x ∷ xs) (suc k) d h passes =
    let rest : suc (get_or xs k d) ≤ greatest (map suc (filter test xs)) = top-all test xs k d (omega arith) passes in
    ⊎_elim
    (λ (yes : test x ≡ true). rw yes (omega arith))
    (λ (no : test x ≡ false). rw no rest)
    (cases_Bool (test x))

module _ (net : Net) (valid : Lawful net) (origin dest last : ℕ) (within : last ≤ BUDGET_LIMIT) where
  pub need-some : (i : ℕ) → (need net origin dest last i ≡ 0) ⊎ ((t : ℕ) × (in_region net origin dest last i t ≡ true) × (need net origin dest last i ≡ suc t))
  unfolding need
  need-some i = top-some (λ t. in_region net origin dest last i t) (range_with_len 0 (last + 1))

  pub region-in : (i t : ℕ) → in_region net origin dest last i t ≡ true → (i ≢ dest) × (t ≤ last) × (reaches net dest dest i t ≡ true)
  region-in i t inside =
      let one = and_parts (not (i == dest)) (nat_le t last && (reaches net dest dest i t && reaches net dest i origin (last - t))) inside in
      let two = and_parts (nat_le t last) (reaches net dest dest i t && reaches net dest i origin (last - t)) one.1 in
      let three = and_parts (reaches net dest dest i t) (reaches net dest i origin (last - t)) two.1 in
      (eqb-false i dest (not-true (i == dest) one.0), leb-true t last two.0, three.0)

  pub need-all : (i t : ℕ) → in_region net origin dest last i t ≡ true → suc t ≤ need net origin dest last i
  unfolding need
  need-all i t inside =
      let early : t ≤ last = (region-in i t inside).1 in
      let test : ℕ → Bool = λ u. in_region net origin dest last i u in
      let at : get_or (range_with_len 0 (last + 1)) t 0 ≡ t = get_or-range_with_len 0 (last + 1) t 0 (omega arith) ∙ (let z : 0 + t ≡ t = omega arith in z) in
      let less : t < length (range_with_len 0 (last + 1)) = rw (length-range_with_len 0 (last + 1)) (omega arith) in
      subst (λ (u : ℕ). suc u ≤ greatest (map suc (filter test (range_with_len 0 (last + 1))))) at
      (top-all test (range_with_len 0 (last + 1)) t 0 less (ap test at ∙ inside))

  -- reached at a budget up to the last
  reached-least : (i t : ℕ) → t ≤ last → reaches net dest dest i t ≡ true → least_to net dest i ≤ t
  reached-least i t early sure = leb-true (least_to net dest i) t (sym (ticks-reach net valid dest dest i END_LIMIT t (omega arith)) ∙ sure)

  -- a need is at most one above the greatest budget, and above the least time where it is not 0
  pub need-least : (i : ℕ) → (need net origin dest last i ≡ 0) ⊎ ((least_to net dest i < need net origin dest last i) × (need net origin dest last i ≤ END_LIMIT))
  need-least i =
      ⊎_elim
      (λ (none : need net origin dest last i ≡ 0). inl none)
      (λ (some : (t : ℕ) × (in_region net origin dest last i t ≡ true) × (need net origin dest last i ≡ suc t)).
      let inside = region-in i some.0 some.1 in
      let least : least_to net dest i ≤ some.0 = reached-least i some.0 inside.1 inside.2 in
      inr (omega (arith, some.2), omega (arith, some.2, inside.1)))
      (need-some i)

  -- each open arc's head is known, or needed, as far as the tail needs it
  pub needs-closed : (i e : ℕ) (arc : Arc) → arc_at net e ≡ Some arc → arc.tail ≡ i → is_closed arc.time ≡ false → arc.head ≢ dest → (s : NodeTable) → IsReadyAt net dest arc.head s
      → need net origin dest last i ≤ max (known_end s) (need net origin dest last arc.head) + least_tick arc.time
  needs-closed i e arc at tail opened apart s ready =
      ⊎_elim
      (λ (none : need net origin dest last i ≡ 0). rw none (omega arith))
      (λ (some : (t : ℕ) × (in_region net origin dest last i t ≡ true) × (need net origin dest last i ≡ suc t)).
      let t : ℕ = some.0 in
      let l : ℕ = least_tick arc.time in
      let early : t ≤ last = (region-in i t some.1).1 in
      ⊎_elim
      (λ (low : t < l). omega (arith, some.2))
      (λ (high : l ≤ t).
      let first = open-first arc.time opened in
      let reads : Reads net i t arc.head (t - l) = record {
        number = e;
        arc = arc;
        is_arc = at;
        tail = tail;
        head = refl;
        index = 0;
        pair = first.0;
        is_pair = first.1;
        in_time = rw first.2 high;
        left = ap (λ (x : ℕ). t - x) (sym first.2);
      } in
      ⊎_elim
      (λ (bad : arc.head ≡ dest). absurd (apart bad))
      (λ (rest : (in_region net origin dest last arc.head (t - l) ≡ true) ⊎ (reaches net dest dest arc.head (t - l) ≡ false)).
      ⊎_elim
      (λ (inside : in_region net origin dest last arc.head (t - l) ≡ true).
      let enough : suc (t - l) ≤ need net origin dest last arc.head = need-all arc.head (t - l) inside in
      omega (arith, some.2))
      (λ (not_yet : reaches net dest dest arc.head (t - l) ≡ false).
      let c : ℕ = least_to net dest arc.head in
      let under : t - l < c =
      ⊎_elim
      (λ (h : t - l < c). h)
      (λ (h : c ≤ t - l). absurd (true≢false (sym (le-leb c (t - l) h) ∙ sym (ticks-reach net valid dest dest arc.head END_LIMIT (t - l) (omega arith)) ∙ not_yet)))
      (cases_lt (t - l) c) in
      let known : c ≤ known_end s =
      ⊎_elim
      (λ (above : c < s.front). (let z : c ≤ max s.front s.base = omega arith in z))
      (λ (below : s.front ≤ c). (let z : s.base ≡ c = ready.based below in omega arith))
      (cases_lt c s.front) in
      omega (arith, some.2))
      rest)
      (valid.region origin dest last i t arc.head (t - l) some.1 reads))
      (cases_lt t l))
      (need-some i)

  -- ---- the end of an ask
  pub grown-front : (i : ℕ) (old new : NodeTable) → IsReadyAt net dest i old → IsGrownAt (need net origin dest last i) old new → need net origin dest last i ≤ known_end new
      → new.front ≡ max old.front (need net origin dest last i)
  grown-front i old new ready is met =
      let based : old.base ≤ least_to net dest i = ready-based net dest i old ready in
      let same : new.base ≡ old.base = is.base in
      ⊎_elim
      (λ (none : need net origin dest last i ≡ 0). ⊎_elim (λ (e : new.front ≡ old.front). omega arith) (λ (g : (known_end old < new.front) × (new.front ≤ need net origin dest last i)). absurd (omega (arith, g.0, g.1))) is.front)
      (λ (some : (least_to net dest i < need net origin dest last i) × (need net origin dest last i ≤ END_LIMIT)).
      ⊎_elim
      (λ (e : new.front ≡ old.front). omega (arith, some.0))
      (λ (g : (known_end old < new.front) × (new.front ≤ need net origin dest last i)). omega (arith, g.0, g.1, some.0))
      is.front)
      (need-least i)
