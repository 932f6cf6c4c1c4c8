-- Dijkstra's search: what is settled is least.
use Rattle.std.proofs.Common.{ℕ, suc, ◌≡◌, ◌≢◌, ◌+◌, ◌-◌, ◌*◌, ◌<◌, ◌≤◌, Bool, true, false, not, cond, List, [], ◌∷◌, length, get_or, set, Option, None, Some, IfSome, refl, sym, ◌∙◌, ap, subst, arith, inl, inr, ◌⊎◌, ⊎_elim}
use Rattle.std.specs.List.{All, Contains, count_by}
use Rattle.std.specs.Option.{is_some}
use Rattle.std.specs.List.Sorted.{IsPermutation}
use Rattle.std.proofs.lemmas.List.{get_or-set_same, get_or-set_other, get_or_default}
use Rattle.std.proofs.lemmas.List.Sums.{sum_by-set, count_by-le-length}
use Rattle.std.proofs.lemmas.List.Elements.{All-contains, All-nil, All-head, All-tail, All-cons, Contains-push}
use Rattle.std.proofs.lemmas.List.Sorted.{All-permutation, Contains-permutation, length_permutation}
use Rattle.std.proofs.lemmas.Option.{none-some}
use Rattle.std.proofs.lemmas.Bool.{true≢false}
use Rattle.sota_hist.specs.Time.{least_tick}
use Rattle.sota_network.specs.Network.{Net, IsNode, arc_at}
use Rattle.sota_network.specs.declared.network.Arc.{Arc}
use Rattle.sota_units.specs.Limits.{NODE_LIMIT, TICK_LIMIT}
use Rattle.sota_bounds.specs.Search.{source_of, target_of, time_at, Joins, IsBeyond, IsFoundBetween, TIME_LIMIT}
use Rattle.sota_bounds.specs.declared.search.Direction.{Direction}
use Rattle.sota_bounds.specs.declared.search.Visit.{Visit}
use Rattle.sota_bounds.proofs.Queued.{in-cons}
use Rattle.sota_bounds.proofs.Joined.{HasArcs, start-valid, end-valid, IsUsable, IsLeastJoin, least-some, beyond-later, joins-start, joins-step, joins-kept}

-- how many nodes are settled
abbrev pub settled : List (Option ℕ) → ℕ
settled times = count_by (λ (time : Option ℕ). is_some time) times

-- a visit that waits comes from a walk, and needs few arcs
pub record IsWait (net : Net) (dest : ℕ) (direction : Direction) (source most : ℕ) (visit : Visit) : Type 0 where
  pub node : IsNode net visit.node
  pub walk : Joins net dest direction source visit.node visit.time.0
  pub soon : visit.time.0 ≤ most * TICK_LIMIT

-- node i is settled
abbrev pub IsSettled : List (Option ℕ) → ℕ → Type 0
IsSettled times i = (n : ℕ) × (time_at times i ≡ Some n)

-- it waits at this time
abbrev pub Waits : List Visit → ℕ → ℕ → Type 0
Waits queue i n = (visit : Visit) × Contains queue visit × (visit.node ≡ i) × (visit.time.0 ≡ n)

-- what holds between one visit and the next: each settled time is least, and over each arc of a settled node the other end is
-- settled, or it waits
pub record IsSearch (net : Net) (dest : ℕ) (direction : Direction) (source : ℕ) (times : List (Option ℕ)) (queue : List Visit) : Type 0 where
  pub count : length times ≡ net.nodes
  pub waits : All (IsWait net dest direction source (settled times)) queue
  pub least : (i n : ℕ) → IsNode net i → time_at times i ≡ Some n → IsLeastJoin net dest direction source i n
  pub few : (i n : ℕ) → IsNode net i → time_at times i ≡ Some n → n ≤ settled times * TICK_LIMIT
  pub first : IsSettled times source ⊎ Waits queue source 0
  pub closed : (e : ℕ) (arc : Arc) (n : ℕ) → arc_at net e ≡ Some arc → IsUsable dest arc → time_at times (source_of direction arc) ≡ Some n
      → IsSettled times (target_of direction arc) ⊎ Waits queue (target_of direction arc) (n + least_tick arc.time)

-- ---- one time more
pub settled-here : (times : List (Option ℕ)) (i t : ℕ) → i - 1 < length times → time_at (set times (i - 1) (Some t)) i ≡ Some t
settled-here times i t h = get_or-set_same times (i - 1) (Some t) None h

pub settled-other : (times : List (Option ℕ)) (i j t : ℕ) → 1 ≤ i → 1 ≤ j → j ≢ i → time_at (set times (i - 1) (Some t)) j ≡ time_at times j
settled-other times i j t low low_j apart =
    let off : j - 1 ≢ i - 1 = λ e. apart (omega arith) in
    get_or-set_other times (i - 1) (j - 1) (Some t) None off

pub settled-more : (times : List (Option ℕ)) (i t : ℕ) → i - 1 < length times → time_at times i ≡ None → settled (set times (i - 1) (Some t)) ≡ settled times + 1
settled-more times i t h never =
    let one = sum_by-set (λ (time : Option ℕ). cond (is_some time) 1 0) times (i - 1) (Some t) None h in
    let before : ◌≡◌ {A = ℕ} (cond (is_some (time_at times i)) 1 0) 0 = rw never refl in
    omega (arith, one, before)

-- what was read at the place of node i
at-place : (times : List (Option ℕ)) (k : ℕ) (time : Option ℕ) → k < length times → time ≡ get_or times k time → get_or times k None ≡ time
at-place times k time h is = get_or_default times k None time h ∙ sym is

pub read-none : (times : List (Option ℕ)) (k i : ℕ) (time : Option ℕ) (never : Bool) → k ≡ i → k - 1 < length times → time ≡ get_or times (k - 1) time → is_some time ≡ not never → never ≡ true → time_at times i ≡ None
read-none times k i None never at h is tells sure = ap (time_at times) (sym at) ∙ at-place times (k - 1) None h is
read-none times k i (Some n) never at h is tells sure = absurd (true≢false (tells ∙ ap not sure))

pub read-some : (times : List (Option ℕ)) (k i : ℕ) (time : Option ℕ) (never : Bool) → k ≡ i → k - 1 < length times → time ≡ get_or times (k - 1) time → is_some time ≡ not never → never ≡ false → IsSettled times i
read-some times k i (Some n) never at h is tells sure = (n, ap (time_at times) (sym at) ∙ at-place times (k - 1) (Some n) h is)
read-some times k i None never at h is tells sure = absurd (true≢false (sym (tells ∙ ap not sure)))

-- the visit that was taken out is waited for no more, but its node is settled
pub still-waits : (net : Net) (times : List (Option ℕ)) (old rest queue : List Visit) (visit : Visit) → IsPermutation old (visit ∷ rest) → ((w : Visit) → Contains rest w → Contains queue w)
    → IsSettled times visit.node → (i n : ℕ) → Waits old i n → IsSettled times i ⊎ Waits queue i n
still-waits net times old rest queue visit moved kept done i n waits =
    ⊎_elim
    (λ (same : visit ≡ waits.0). inl (subst (IsSettled times) (ap (λ (w : Visit). w.node) same ∙ waits.2) done))
    (λ (among : Contains rest waits.0). inr (waits.0, kept waits.0 among, waits.2, waits.3))
    (in-cons visit rest waits.0 (Contains-permutation old (visit ∷ rest) waits.0 moved waits.1))

-- what is visited has waited
module _ (net : Net) (dest : ℕ) (direction : Direction) (source : ℕ) (times : List (Option ℕ)) (queue rest : List Visit) (visit : Visit) (is : IsSearch net dest direction source times queue) (moved : IsPermutation queue (visit ∷ rest)) where
  waited : IsWait net dest direction source (settled times) visit
  waited = All-head (IsWait net dest direction source (settled times)) visit rest (All-permutation (IsWait net dest direction source (settled times)) queue (visit ∷ rest) moved is.waits)

  pub visits-node : IsNode net visit.node
  visits-node = waited.node

  pub visits-soon : net.nodes ≤ NODE_LIMIT → visit.time.0 ≤ TIME_LIMIT
  visits-soon small =
      let most : settled times ≤ length times = count_by-le-length (λ (time : Option ℕ). is_some time) times in
      omega (arith, waited.soon, most, is.count, small)

  -- its node has a place
  pub visited : (k : ℕ) → k ≡ visit.node → k - 1 < length times
  visited k at = omega (arith, waited.node, is.count, at)

  pub shorter : length rest < length queue
  shorter =
      let one : suc (length rest) ≡ length queue = length_permutation queue (visit ∷ rest) moved in
      omega (arith, one)

module _ (net : Net) (arcs : HasArcs net) (dest : ℕ) (direction : Direction) (source : ℕ) (at_source : IsNode net source) where
  -- ---- a walk usable what is settled over an arc, so that something waits no later than it ends
  abbrev pub Reached : List (Option ℕ) → List Visit → ℕ → ℕ → Type 0
  Reached times queue i n = IsNode net i × (((m : ℕ) × (time_at times i ≡ Some m) × (m ≤ n)) ⊎ ((visit : Visit) × Contains queue visit × (visit.time.0 ≤ n)))

  module _ (times : List (Option ℕ)) (queue : List Visit) (is : IsSearch net dest direction source times queue) where
    settled-soon : (i n : ℕ) → IsNode net i → Joins net dest direction source i n → IsSettled times i → (m : ℕ) × (time_at times i ≡ Some m) × (m ≤ n)
    settled-soon i n node walk done = (done.0, done.1, (is.least i done.0 node done.1).least n walk)

    waits-soon : (i n m : ℕ) → n ≤ m → Waits queue i n → (visit : Visit) × Contains queue visit × (visit.time.0 ≤ m)
    waits-soon i n m h waits = (waits.0, waits.1, (let soon : waits.0.time.0 ≤ m = omega (arith, waits.3) in soon))

    reached-first : IsNode net source × (((m : ℕ) × (time_at times source ≡ Some m) × (m ≤ 0)) ⊎ ((visit : Visit) × Contains queue visit × (visit.time.0 ≤ 0)))
    reached-first = (
      at_source,
      ⊎_elim
          (λ (done : IsSettled times source). inl (settled-soon source 0 at_source (joins-start net dest direction source) done))
          (λ (waits : Waits queue source 0). inr (waits-soon source 0 0 (let z : 0 ≤ 0 = omega arith in z) waits))
          is.first,
    )

    reached-kept : (e : ℕ) (arc : Arc) (n : ℕ) → arc_at net e ≡ Some arc → IsUsable dest arc → Joins net dest direction source (source_of direction arc) n
        → Reached times queue (source_of direction arc) n → Reached times queue (target_of direction arc) (n + least_tick arc.time)
    reached-kept e arc n number usable walk here =
        let node : IsNode net (target_of direction arc) = end-valid net direction arc (arcs.valid e arc number) in
        let longer : Joins net dest direction source (target_of direction arc) (n + least_tick arc.time) = joins-step net dest direction source e arc n number usable walk in (
          node,
          ⊎_elim
              (λ (done : (m : ℕ) × (time_at times (source_of direction arc) ≡ Some m) × (m ≤ n)).
              ⊎_elim
              (λ (end_done : IsSettled times (target_of direction arc)). inl (settled-soon (target_of direction arc) (n + least_tick arc.time) node longer end_done))
              (λ (waits : Waits queue (target_of direction arc) (done.0 + least_tick arc.time)).
              inr (waits-soon (target_of direction arc) (done.0 + least_tick arc.time) (n + least_tick arc.time) (let z : done.0 + least_tick arc.time ≤ n + least_tick arc.time = omega (arith, done.2) in z) waits))
              (is.closed e arc done.0 number usable done.1))
              (λ (early : (visit : Visit) × Contains queue visit × (visit.time.0 ≤ n)).
              inr (early.0, early.1, (let z : early.0.time.0 ≤ n + least_tick arc.time = omega (arith, early.2) in z)))
              here.1,
        )

    pub reached : (i n : ℕ) → Joins net dest direction source i n → Reached times queue i n
    reached i n walk = joins-kept net dest direction source (Reached times queue) reached-kept reached-first i n walk

    -- a node that is not settled, where the earliest visit that waits is for it
    pub earliest-least : (visit : Visit) → Contains queue visit → All (λ (w : Visit). visit.time.0 ≤ w.time.0) queue → time_at times visit.node ≡ None
        → IsLeastJoin net dest direction source visit.node visit.time.0
    earliest-least visit among earliest never = record {
      walk = (All-contains (IsWait net dest direction source (settled times)) queue visit is.waits among).walk;
      least = λ m walk.
          ⊎_elim
          (λ (done : (n : ℕ) × (time_at times visit.node ≡ Some n) × (n ≤ m)). absurd (none-some done.0 (sym never ∙ done.1)))
          (λ (early : (w : Visit) × Contains queue w × (w.time.0 ≤ m)).
          let before : visit.time.0 ≤ early.0.time.0 = All-contains (λ (w : Visit). visit.time.0 ≤ w.time.0) queue early.0 earliest early.1 in
          omega (arith, early.2))
          (reached visit.node m walk).1;
    }

    -- where nothing waits within the most, what is settled is all that a search finds
    found-by : (most : Option ℕ) → All (λ (visit : Visit). IsBeyond most visit.time.0) queue → (i : ℕ) (found : Option ℕ) → IsNode net i → time_at times i ≡ found → IsFoundBetween most net dest direction source i found
    found-by most later i None node same =
        λ m walk.
        ⊎_elim
        (λ (done : (n : ℕ) × (time_at times i ≡ Some n) × (n ≤ m)). absurd (none-some done.0 (sym same ∙ done.1)))
        (λ (early : (w : Visit) × Contains queue w × (w.time.0 ≤ m)).
        beyond-later most early.0.time.0 m early.2 (All-contains (λ (visit : Visit). IsBeyond most visit.time.0) queue early.0 later early.1))
        (reached i m walk).1
    found-by most later i (Some n) node same = least-some net dest direction source i n (is.least i n node same)

    pub all-found : (most : Option ℕ) → All (λ (visit : Visit). IsBeyond most visit.time.0) queue → (i : ℕ) → IsNode net i → IsFoundBetween most net dest direction source i (time_at times i)
    all-found most later i node = found-by most later i (time_at times i) node refl

    -- a visit is dropped whose node is settled
    pub dropped : (rest : List Visit) (visit : Visit) → IsPermutation queue (visit ∷ rest) → IsSettled times visit.node → IsSearch net dest direction source times rest
    dropped rest visit moved done =
        let goes_on : (i n : ℕ) → Waits queue i n → IsSettled times i ⊎ Waits rest i n = still-waits net times queue rest rest visit moved (λ w among. among) done in
        record {
          count = is.count;
          waits = All-tail (IsWait net dest direction source (settled times)) visit rest (All-permutation (IsWait net dest direction source (settled times)) queue (visit ∷ rest) moved is.waits);
          least = is.least;
          few = is.few;
          first = ⊎_elim (λ (s : IsSettled times source). inl s) (λ (w : Waits queue source 0). goes_on source 0 w) is.first;
          closed = λ e arc n number usable here.
              ⊎_elim (λ (s : IsSettled times (target_of direction arc)). inl s) (λ (w : Waits queue (target_of direction arc) (n + least_tick arc.time)). goes_on (target_of direction arc) (n + least_tick arc.time) w)
              (is.closed e arc n number usable here);
        }

  -- the search begins with a visit to the source, and nothing is settled
  pub begun : (times : List (Option ℕ)) (queue : List Visit) (visit : Visit) → length times ≡ net.nodes → ((i : ℕ) → IsNode net i → time_at times i ≡ None)
      → visit.node ≡ source → visit.time.0 ≡ 0 → IsPermutation (visit ∷ []) queue → IsSearch net dest direction source times queue
  begun times queue visit count never at time moved =
      let unsettled : (i n : ℕ) → IsNode net i → time_at times i ≡ Some n → ⊥ = λ i n node here. none-some n (sym (never i node) ∙ here) in
      let walk : Joins net dest direction source visit.node visit.time.0 = rw (at, time) (joins-start net dest direction source) in
      let node : IsNode net visit.node = rw at at_source in
      let soon : visit.time.0 ≤ settled times * TICK_LIMIT = rw time (omega arith) in
      record {
        count = count;
        waits = All-permutation (IsWait net dest direction source (settled times)) (visit ∷ []) queue moved
            (All-cons (IsWait net dest direction source (settled times)) visit [] (record { node = node; walk = walk; soon = soon }) (All-nil (IsWait net dest direction source (settled times))));
        least = λ i n node here. absurd (unsettled i n node here);
        few = λ i n node here. absurd (unsettled i n node here);
        first = inr (visit, Contains-permutation (visit ∷ []) queue visit moved (Contains-push [] visit), at, time);
        closed = λ e arc n number usable here. absurd (unsettled (source_of direction arc) n (start-valid net direction arc (arcs.valid e arc number)) here);
      }

-- ---- the settled times have a bound, since there are few nodes
some-few : (found : Option ℕ) (limit : ℕ) → ((n : ℕ) → found ≡ Some n → n ≤ limit) → IfSome found (λ n. n ≤ limit)
some-few None limit few = record {}
some-few (Some n) limit few = few n refl

pub all-few : (net : Net) (dest : ℕ) (direction : Direction) (source : ℕ) (times : List (Option ℕ)) (queue : List Visit) → IsSearch net dest direction source times queue → net.nodes ≤ NODE_LIMIT
    → All (λ (time : Option ℕ). IfSome time (λ n. n ≤ TIME_LIMIT)) times
all-few net dest direction source times queue is small k d h =
    let most : settled times ≤ length times = count_by-le-length (λ (time : Option ℕ). is_some time) times in
    some-few (get_or times k d) TIME_LIMIT
    (λ n at.
    let place : k + 1 - 1 ≡ k = omega arith in
    let node : IsNode net (k + 1) = (let low : 1 ≤ k + 1 = omega arith in low, let high : k + 1 ≤ net.nodes = omega (arith, is.count) in high) in
    let here : time_at times (k + 1) ≡ Some n = ap (λ (j : ℕ). get_or times j None) place ∙ get_or_default times k None d h ∙ at in
    omega (arith, is.few (k + 1) n node here, most, is.count))
