-- What is kept stays right: per node.
use Rattle.std.proofs.Common.{ℕ, ◌≡◌, ◌-◌, ◌<◌, ◌≤◌, inl, inr, min, List, length, get_or, take, None, refl, sym, ◌∙◌, arith, ⊎_elim}
use Rattle.std.proofs.lemmas.Bool.{cases_lt, le-ltb, le-leb, lt-leb, leb-true}
use Rattle.std.proofs.lemmas.List.{get_or-take, length-take}
use Rattle.sota_network.specs.Network.{Net, replaced}
use Rattle.sota_network.specs.Grid.{lo, hi, choice}
use Rattle.sota_network.specs.declared.network.Arc.{Arc}
use Rattle.sota_kept.specs.Ticks.{END_LIMIT, least_to}
use Rattle.sota_kept.specs.Edits.{first_affected, IsEdit, SameAt}
use Rattle.sota_kept.specs.NodeTables.{NodeTable, IsKeptAt, IsSettledAt, lower_of, upper_of, next_of, emptied_table, rebased_table, cut_to}
use Rattle.sota_kept.proofs.Counting.{ticks-most, ticks-least, ticks-reach}
use Rattle.sota_kept.proofs.Edited.{edit-same, edit-valid}
use Rattle.sota_kept.specs.Laws.{Lawful}
use Rattle.sota_kept.proofs.Networks.{NetworkLaws, zero-at}

-- below the least time the grid is 0
pub zero-least : (net : Net) → Lawful net → (dest i t : ℕ) → t < least_to net dest i → (lo net dest i t ≡ 0) × (hi net dest i t ≡ 0)
zero-least net valid dest i t early =
    let up : hi net dest i t ≡ 0 =
    zero-at net valid dest i t
    (λ n walk. ⊎_elim (λ (less : t < n). less) (λ (le : n ≤ t). absurd (ticks-least net valid dest dest i END_LIMIT n walk (let z : n < least_to net dest i = omega arith in z))) (cases_lt t n)) in
    ((omega (arith, valid.order dest i t)), up)

-- no entry is right for every network and destination
pub kept-emptied_table : (net : Net) (dest i : ℕ) (s : NodeTable) → s.base ≤ END_LIMIT → IsKeptAt net dest i (emptied_table s)
kept-emptied_table net dest i s limit = record {
  shape = record { front = omega arith; base = limit; lower = omega arith; upper = omega arith; choices = omega arith };
  lower = λ t low high. absurd (omega arith);
  upper = λ t low high. absurd (omega arith);
  choice = λ t low high. absurd (omega arith);
  below = λ t low. absurd (omega arith);
  least = inr (omega arith);
}

-- with the least time as base where the front is not above it, what is kept is settled
pub settled-rebased_table : (net : Net) → Lawful net → (dest i : ℕ) (s : NodeTable) → IsKeptAt net dest i s → IsSettledAt net dest i (rebased_table (least_to net dest i) s)
settled-rebased_table net valid dest i s is =
    let c : ℕ = least_to net dest i in
    let most : c ≤ END_LIMIT = ticks-most net valid dest dest i END_LIMIT in
    ⊎_elim
    (λ (above : c < s.front).
    rw (lt-leb s.front c above)
    (record {
      kept = is;
      empty = λ t low.
          let le : s.base ≤ c = ⊎_elim (λ (h : s.base ≤ c). h) (λ (h : s.front ≤ c). absurd (omega arith)) is.least in
          zero-least net valid dest i t (omega arith);
    }))
    (λ (below : s.front ≤ c).
    rw (le-leb s.front c below)
    (record {
      kept = record {
        shape = record { front = is.shape.front; base = most; lower = (let z : 0 ≡ s.front - c = omega arith in z); upper = (let z : 0 ≡ s.front - c = omega arith in z); choices = (let z : 0 ≡ s.front - c = omega arith in z) };
        lower = λ t low high. absurd (omega arith);
        upper = λ t low high. absurd (omega arith);
        choice = λ t low high. absurd (omega arith);
        below = λ t low. zero-least net valid dest i t (omega arith);
        least = inl (let z : c ≤ c = omega arith in z);
      };
      empty = λ t low. zero-least net valid dest i t low;
    }))
    (cases_lt c s.front)

-- an edit does not lower a least time, or raise it, below the first affected budget
pub least-edited : NetworkLaws → (net : Net) (dest number : ℕ) (a : Arc) (s0 : ℕ) (time : List (ℕ × ℕ)) → IsEdit net number a s0 time → (i : ℕ)
    → min (least_to (replaced net number time) dest i) (first_affected net dest a s0 i) ≡ min (least_to net dest i) (first_affected net dest a s0 i)
least-edited laws net dest number a s0 time is i =
    let other : Net = replaced net number time in
    let valid : Lawful net = laws net is.valid in
    let valid' : Lawful other = edit-valid laws net number a s0 time is in
    let c : ℕ = least_to net dest i in
    let c' : ℕ = least_to other dest i in
    let end : ℕ = first_affected net dest a s0 i in
    let most : c ≤ END_LIMIT = ticks-most net valid dest dest i END_LIMIT in
    let most' : c' ≤ END_LIMIT = ticks-most other valid' dest dest i END_LIMIT in
    let up : c' < end → c' < END_LIMIT → c ≤ c' =
    λ early less.
    let same = edit-same laws net dest number a s0 time is i c' early in
    leb-true c c' (sym (ticks-reach net valid dest dest i END_LIMIT c' less) ∙ sym same.reach ∙ ticks-reach other valid' dest dest i END_LIMIT c' less ∙ le-leb c' c' (omega arith))
    in
    let down : c < end → c < END_LIMIT → c' ≤ c =
    λ early less.
    let same = edit-same laws net dest number a s0 time is i c early in
    leb-true c' c (sym (ticks-reach other valid' dest dest i END_LIMIT c less) ∙ same.reach ∙ ticks-reach net valid dest dest i END_LIMIT c less ∙ le-leb c c (omega arith))
    in
    ⊎_elim
    (λ (less : c < c').
    ⊎_elim
    (λ (early : c < end). let h : c' ≤ c = down early (omega arith) in absurd (omega arith))
    (λ (late : end ≤ c). omega arith)
    (cases_lt c end))
    (λ (le : c' ≤ c).
    ⊎_elim
    (λ (less : c' < c).
    ⊎_elim
    (λ (early : c' < end). let h : c ≤ c' = up early (omega arith) in absurd (omega arith))
    (λ (late : end ≤ c'). omega arith)
    (cases_lt c' end))
    (λ (ge : c ≤ c'). (let same : c ≡ c' = omega arith in omega arith))
    (cases_lt c' c))
    (cases_lt c c')

-- an entry that a cut leaves
cut-at : {X : Type 0} → (xs : List X) (b f t : ℕ) (d : X) → b ≤ t → t < f → get_or (take (f - b) xs) (t - b) d ≡ get_or xs (t - b) d
cut-at xs b f t d low high = get_or-take (f - b) xs (t - b) d (omega arith)

-- what a cut leaves is right for a network that is the same below a bound, where the cut keeps no more
cut-right : (net other : Net) (dest i front bound : ℕ) (s : NodeTable) → min s.front front ≤ bound → ((t : ℕ) → t < bound → SameAt net other dest i t) → min (least_to other dest i) bound ≡ min (least_to net dest i) bound
    → IsKeptAt net dest i s → IsKeptAt other dest i (cut_to front s)
cut-right net other dest i front bound s within same least is =
    let f : ℕ = min s.front front in
    let top : s.front ≤ END_LIMIT = is.shape.front in
    record {
      shape = record {
        front = omega arith;
        base = is.shape.base;
        lower = length-take (f - s.base) s.lower ∙ (let h : length s.lower ≡ s.front - s.base = is.shape.lower in omega arith);
        upper = length-take (f - s.base) s.upper ∙ (let h : length s.upper ≡ s.front - s.base = is.shape.upper in omega arith);
        choices = length-take (f - s.base) s.choices ∙ (let h : length s.choices ≡ s.front - s.base = is.shape.choices in omega arith);
      };
      lower = λ t low high.
          let old : lower_of s t ≡ lo net dest i t = is.lower t low (omega arith) in
          let kept : lower_of (cut_to front s) t ≡ lower_of s t = rw (le-ltb t s.base low) (cut-at s.lower s.base f t 0 low high) in
          kept ∙ old ∙ sym (same t (omega arith)).lower;
      upper = λ t low high.
          let old : upper_of s t ≡ hi net dest i t = is.upper t low (omega arith) in
          let kept : upper_of (cut_to front s) t ≡ upper_of s t = rw (le-ltb t s.base low) (cut-at s.upper s.base f t 0 low high) in
          kept ∙ old ∙ sym (same t (omega arith)).upper;
      choice = λ t low high.
          let old : next_of s t ≡ choice net dest i t = is.choice t low (omega arith) in
          let kept : next_of (cut_to front s) t ≡ next_of s t = rw (le-ltb t s.base low) (cut-at s.choices s.base f t None low high) in
          kept ∙ old ∙ sym (same t (omega arith)).choice;
      below = λ t low.
          let old = is.below t (omega arith) in
          ((same t (omega arith)).lower ∙ old.0, (same t (omega arith)).upper ∙ old.1);
      least =
          ⊎_elim
          (λ (h : s.base ≤ least_to net dest i).
          ⊎_elim
          (λ (bad : least_to other dest i < s.base). inr (omega arith))
          (λ (good : s.base ≤ least_to other dest i). inl good)
          (cases_lt (least_to other dest i) s.base))
          (λ (h : s.front ≤ least_to net dest i). inr (omega arith))
          is.least;
    }

-- what is kept below the first affected budgets is right for the new network
pub kept-cut : NetworkLaws → (net : Net) (dest number : ℕ) (a : Arc) (s0 : ℕ) (time : List (ℕ × ℕ)) → IsEdit net number a s0 time → (i front : ℕ) (s : NodeTable) → front ≤ first_affected net dest a s0 i
    → IsKeptAt net dest i s → IsKeptAt (replaced net number time) dest i (cut_to front s)
kept-cut laws net dest number a s0 time edit i front s within is =
    cut-right net (replaced net number time) dest i front (first_affected net dest a s0 i) s (omega arith) (λ t early. edit-same laws net dest number a s0 time edit i t early)
    (least-edited laws net dest number a s0 time edit i) is

-- and for the same network wherever the cut is
pub cut-same : (net : Net) (dest i front : ℕ) (s : NodeTable) → IsKeptAt net dest i s → IsKeptAt net dest i (cut_to front s)
cut-same net dest i front s is =
    cut-right net net dest i front s.front s (omega arith) (λ t early. record { lower = refl; upper = refl; choice = refl; reach = refl }) refl is
