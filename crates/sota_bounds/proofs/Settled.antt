-- One more node is settled, and the visits to which it leads are queued.
use Rattle.std.proofs.Common.{ℕ, suc, ◌≡◌, ◌≢◌, ◌+◌, ◌-◌, ◌*◌, ◌<◌, ◌≤◌, ◌==◌, ◌||◌, Bool, true, false, cond, List, [], ◌∷◌, ◌++◌, length, set, Option, None, Some, refl, sym, ◌∙◌, ap, subst, arith, inl, inr, ◌⊎◌, ⊎_elim, length-append}
use Rattle.std.specs.List.{All, Contains}
use Rattle.std.specs.Option.{is_some, option_and_then}
use Rattle.std.specs.List.Sorted.{IsPermutation}
use Rattle.std.proofs.Math.ListN.{length-set}
use Rattle.std.proofs.lemmas.List.Sums.{count_by-le-length}
use Rattle.std.proofs.lemmas.List.Elements.{All-contains, All-tail, All-append, All-weaker, Contains-append_left, Contains-append_right, Contains-push}
use Rattle.std.proofs.lemmas.List.Sorted.{All-permutation, Contains-permutation, length_permutation, IsPermutation-sym}
use Rattle.std.proofs.lemmas.Option.{none-some}
use Rattle.std.proofs.lemmas.Bool.{cases_eq, eqb-false, eqb-true, eq-eqb, ne_eqb, true≢false}
use Rattle.sota_hist.specs.Time.{is_closed, least_tick}
use Rattle.sota_network.specs.Network.{Net, IsNode, arc_at}
use Rattle.sota_network.specs.declared.network.Arc.{Arc}
use Rattle.sota_units.specs.Limits.{TICK_LIMIT}
use Rattle.sota_bounds.specs.Search.{source_of, target_of, arcs_at, time_at, further, next_visit, next_visits, Joins}
use Rattle.sota_bounds.specs.declared.search.Direction.{Direction}
use Rattle.sota_bounds.specs.declared.search.Visit.{Visit}
use Rattle.sota_bounds.proofs.Queued.{filter_map-all, filter_map-has, filter_map-short}
use Rattle.sota_bounds.proofs.Joined.{HasArcs, start-valid, end-valid, IsUsable, IsLeastJoin, joins-step}
use Rattle.sota_bounds.proofs.Settling.{settled, IsWait, IsSettled, Waits, IsSearch, settled-here, settled-other, settled-more, still-waits, earliest-least}

unless : {X : Type 0} (b : Bool) (x y : X) → cond b None (Some x) ≡ Some y → (b ≡ false) × (x ≡ y)
unless true x y is = absurd (none-some y is)
unless false x y is = (refl, (let same : x ≡ y = cc in same))

or-false : (a b : Bool) → (a || b) ≡ false → (a ≡ false) × (b ≡ false)
or-false true b is = absurd (true≢false is)
or-false false b is = (refl, is)

next-read : (direction : Direction) (dest : ℕ) (visit : Visit) (times : List (Option ℕ)) (arc : Arc) (w : Visit) → next_visit direction dest visit times arc ≡ Some w → IsUsable dest arc × (further direction visit arc ≡ w)
next-read direction dest visit times arc w is =
    let done = is_some (time_at times (target_of direction arc)) in
    let parts = unless ((arc.tail == dest) || (is_closed arc.time || done)) (further direction visit arc) w is in
    let apart = or-false (arc.tail == dest) (is_closed arc.time || done) parts.0 in
    ((eqb-false arc.tail dest apart.0, (or-false (is_closed arc.time) done apart.1).0), parts.1)

next-here : (direction : Direction) (dest : ℕ) (visit : Visit) (times : List (Option ℕ)) (arc : Arc) → IsUsable dest arc → time_at times (target_of direction arc) ≡ None
    → next_visit direction dest visit times arc ≡ Some (further direction visit arc)
next-here direction dest visit times arc usable never = rw (ne_eqb arc.tail dest usable.0, usable.1, never) refl

module _ (net : Net) (arcs : HasArcs net) (dest : ℕ) (direction : Direction) (source : ℕ) (visit : Visit) (times : List (Option ℕ)) where
  -- the visits that are queued come from walks
  queued-one : (e : ℕ) (w : Visit) → Joins net dest direction source visit.node visit.time.0 → (arc : Arc) → arc_at net e ≡ Some arc → source_of direction arc ≡ visit.node
      → option_and_then (next_visit direction dest visit times) (arc_at net e) ≡ Some w → IsNode net w.node × Joins net dest direction source w.node w.time.0
  queued-one e w walk arc number start is =
      let parts = next-read direction dest visit times arc w (sym (ap (option_and_then (next_visit direction dest visit times)) number) ∙ is) in
      let from_start : Joins net dest direction source (source_of direction arc) visit.time.0 = rw start walk in
      subst (λ (v : Visit). IsNode net v.node × Joins net dest direction source v.node v.time.0) parts.1
      (end-valid net direction arc (arcs.valid e arc number), joins-step net dest direction source e arc visit.time.0 number parts.0 from_start)

  pub queued-all : Joins net dest direction source visit.node visit.time.0 → All (λ (w : Visit). IsNode net w.node × Joins net dest direction source w.node w.time.0) (next_visits net direction dest visit times)
  queued-all walk =
      filter_map-all (λ (e : ℕ). (arc : Arc) × (arc_at net e ≡ Some arc) × ((source_of direction arc == visit.node) ≡ true)) (λ (w : Visit). IsNode net w.node × Joins net dest direction source w.node w.time.0)
      (λ e. option_and_then (next_visit direction dest visit times) (arc_at net e)) (arcs_at direction net visit.node) (arcs.only (λ arc. source_of direction arc == visit.node))
      (λ e w out is. queued-one e w walk out.0 out.1 (eqb-true (source_of direction out.0) visit.node out.2) is)

  -- each arc at the node leads to what is settled, or to one of them
  pub queued-has : (e : ℕ) (arc : Arc) → arc_at net e ≡ Some arc → IsUsable dest arc → source_of direction arc ≡ visit.node → time_at times (target_of direction arc) ≡ None
      → Contains (next_visits net direction dest visit times) (further direction visit arc)
  queued-has e arc number usable start never =
      filter_map-has (λ n. option_and_then (next_visit direction dest visit times) (arc_at net n)) (arcs_at direction net visit.node) e (further direction visit arc)
      (arcs.every (λ a. source_of direction a == visit.node) e arc number (eq-eqb (source_of direction arc) visit.node start))
      (ap (option_and_then (next_visit direction dest visit times)) number ∙ next-here direction dest visit times arc usable never)

-- what a settled node has at its end, or nothing
end-cases : (times : List (Option ℕ)) (i : ℕ) (found : Option ℕ) → time_at times i ≡ found → IsSettled times i ⊎ (time_at times i ≡ None)
end-cases times i None is = inr is
end-cases times i (Some n) is = inl (n, is)

some-same : (m n : ℕ) → ◌≡◌ {A = Option ℕ} (Some m) (Some n) → m ≡ n
some-same m n is = cc

-- over plain numbers
falls : (n s a n' s' q' q : ℕ) → n' ≡ n → s' ≡ s + 1 → s' ≤ n' → q' + 1 ≤ q + a → (n' - s') * (a + 1) + q' < (n - s) * (a + 1) + q
falls n s a n' s' q' q same more most few =
    let less : n - s ≡ (n' - s') + 1 = omega arith in
    rw less (omega arith)

-- what holds when the earliest visit has been taken out of the queue, its node settled, and what it leads to queued
pub record IsStep (net : Net) (dest : ℕ) (direction : Direction) (times new_times : List (Option ℕ)) (old rest queue : List Visit) (visit : Visit) : Type 0 where
  pub moved : IsPermutation old (visit ∷ rest)
  pub earliest : All (λ (w : Visit). visit.time.0 ≤ w.time.0) old
  pub never : time_at times visit.node ≡ None
  pub becomes : new_times ≡ set times (visit.node - 1) (Some visit.time.0)
  pub queued : IsPermutation (rest ++ next_visits net direction dest visit new_times) queue
  pub soon : (limit : ℕ) → visit.time.0 + TICK_LIMIT ≤ limit → All (λ (w : Visit). w.time.0 ≤ limit) rest → All (λ (w : Visit). w.time.0 ≤ limit) queue

module _ (net : Net) (arcs : HasArcs net) (dest : ℕ) (direction : Direction) (source : ℕ) (at_source : IsNode net source) (times new_times : List (Option ℕ)) (old rest queue : List Visit) (visit : Visit)
    (is : IsSearch net dest direction source times old) (step : IsStep net dest direction times new_times old rest queue visit) where
  among : Contains old visit
  among = Contains-permutation (visit ∷ rest) old visit (IsPermutation-sym old (visit ∷ rest) step.moved) (Contains-append_left (visit ∷ []) rest visit (Contains-push [] visit))

  waited : IsWait net dest direction source (settled times) visit
  waited = All-contains (IsWait net dest direction source (settled times)) old visit is.waits among

  within : visit.node - 1 < length times
  within = omega (arith, waited.node, is.count)

  here : time_at new_times visit.node ≡ Some visit.time.0
  here = ap (λ (ts : List (Option ℕ)). time_at ts visit.node) step.becomes ∙ settled-here times visit.node visit.time.0 within

  elsewhere : (i : ℕ) → IsNode net i → i ≢ visit.node → time_at new_times i ≡ time_at times i
  elsewhere i node apart = ap (λ (ts : List (Option ℕ)). time_at ts i) step.becomes ∙ settled-other times visit.node i visit.time.0 waited.node.0 node.0 apart

  same-count : length new_times ≡ length times
  same-count = ap length step.becomes ∙ length-set times (visit.node - 1) (Some visit.time.0)

  one-more : settled new_times ≡ settled times + 1
  one-more = ap settled step.becomes ∙ settled-more times visit.node visit.time.0 within step.never

  found : IsLeastJoin net dest direction source visit.node visit.time.0
  found = earliest-least net arcs dest direction source at_source times old is visit among step.earliest step.never

  -- what was settled stays so
  still-settled : (i : ℕ) → IsNode net i → IsSettled times i → IsSettled new_times i
  still-settled i node done =
      ⊎_elim
      (λ (same : i ≡ visit.node). absurd (none-some done.0 (sym step.never ∙ ap (time_at times) (sym same) ∙ done.1)))
      (λ (apart : i ≡ visit.node → ⊥). (done.0, elsewhere i node apart ∙ done.1))
      (cases_eq i visit.node)

  kept : (w : Visit) → Contains rest w → Contains queue w
  kept w has = Contains-permutation (rest ++ next_visits net direction dest visit new_times) queue w step.queued (Contains-append_left rest (next_visits net direction dest visit new_times) w has)

  goes-on : (i n : ℕ) → IsNode net i → IsSettled times i ⊎ Waits old i n → IsSettled new_times i ⊎ Waits queue i n
  goes-on i n node before =
      ⊎_elim
      (λ (done : IsSettled times i). inl (still-settled i node done))
      (λ (waits : Waits old i n). still-waits net new_times old rest queue visit step.moved kept (visit.time.0, here) i n waits)
      before

  rest-waits : All (IsWait net dest direction source (settled times)) rest
  rest-waits = All-tail (IsWait net dest direction source (settled times)) visit rest (All-permutation (IsWait net dest direction source (settled times)) old (visit ∷ rest) step.moved is.waits)

  new-waits : All (IsWait net dest direction source (settled new_times)) queue
  new-waits k d h =
      let joined : All (λ (w : Visit). IsNode net w.node × Joins net dest direction source w.node w.time.0) queue =
      All-permutation (λ (w : Visit). IsNode net w.node × Joins net dest direction source w.node w.time.0) (rest ++ next_visits net direction dest visit new_times) queue step.queued
      (All-append (λ (w : Visit). IsNode net w.node × Joins net dest direction source w.node w.time.0) rest (next_visits net direction dest visit new_times)
      (All-weaker (IsWait net dest direction source (settled times)) (λ (w : Visit). IsNode net w.node × Joins net dest direction source w.node w.time.0) (λ w wait. (wait.node, wait.walk)) rest rest-waits)
      (queued-all net arcs dest direction source visit new_times waited.walk)) in
      let all_soon : All (λ (w : Visit). w.time.0 ≤ settled new_times * TICK_LIMIT) queue =
      step.soon (settled new_times * TICK_LIMIT) (omega (arith, waited.soon, one-more))
      (All-weaker (IsWait net dest direction source (settled times)) (λ (w : Visit). w.time.0 ≤ settled new_times * TICK_LIMIT) (λ w wait. omega (arith, wait.soon, one-more)) rest rest-waits) in
      record { node = (joined k d h).0; walk = (joined k d h).1; soon = all_soon k d h }

  new-least : (i n : ℕ) → IsNode net i → time_at new_times i ≡ Some n → IsLeastJoin net dest direction source i n
  new-least i n node at =
      ⊎_elim
      (λ (same : i ≡ visit.node).
      let time : visit.time.0 ≡ n = some-same visit.time.0 n (sym here ∙ ap (time_at new_times) (sym same) ∙ at) in
      subst (IsLeastJoin net dest direction source i) time (subst (λ (j : ℕ). IsLeastJoin net dest direction source j visit.time.0) (sym same) found))
      (λ (apart : i ≡ visit.node → ⊥). is.least i n node (sym (elsewhere i node apart) ∙ at))
      (cases_eq i visit.node)

  new-few : (i n : ℕ) → IsNode net i → time_at new_times i ≡ Some n → n ≤ settled new_times * TICK_LIMIT
  new-few i n node at =
      ⊎_elim
      (λ (same : i ≡ visit.node).
      let time : visit.time.0 ≡ n = some-same visit.time.0 n (sym here ∙ ap (time_at new_times) (sym same) ∙ at) in
      omega (arith, waited.soon, one-more))
      (λ (apart : i ≡ visit.node → ⊥). omega (arith, is.few i n node (sym (elsewhere i node apart) ∙ at), one-more))
      (cases_eq i visit.node)

  new-closed : (e : ℕ) (arc : Arc) (n : ℕ) → arc_at net e ≡ Some arc → IsUsable dest arc → time_at new_times (source_of direction arc) ≡ Some n
      → IsSettled new_times (target_of direction arc) ⊎ Waits queue (target_of direction arc) (n + least_tick arc.time)
  new-closed e arc n number usable at =
      let start_node : IsNode net (source_of direction arc) = start-valid net direction arc (arcs.valid e arc number) in
      let end_node : IsNode net (target_of direction arc) = end-valid net direction arc (arcs.valid e arc number) in
      ⊎_elim
      (λ (same : source_of direction arc ≡ visit.node).
      let time : visit.time.0 ≡ n = some-same visit.time.0 n (sym here ∙ ap (time_at new_times) (sym same) ∙ at) in
      ⊎_elim
      (λ (done : IsSettled new_times (target_of direction arc)). inl done)
      (λ (never : time_at new_times (target_of direction arc) ≡ None).
      let has : Contains (next_visits net direction dest visit new_times) (further direction visit arc) = queued-has net arcs dest direction source visit new_times e arc number usable same never in
      inr (
        further direction visit arc,
        Contains-permutation (rest ++ next_visits net direction dest visit new_times) queue (further direction visit arc) step.queued
            (Contains-append_right rest (next_visits net direction dest visit new_times) (further direction visit arc) has),
        refl,
        ap (λ (m : ℕ). m + least_tick arc.time) time,
      ))
      (end-cases new_times (target_of direction arc) (time_at new_times (target_of direction arc)) refl))
      (λ (apart : source_of direction arc ≡ visit.node → ⊥).
      goes-on (target_of direction arc) (n + least_tick arc.time) end_node (is.closed e arc n number usable (sym (elsewhere (source_of direction arc) start_node apart) ∙ at)))
      (cases_eq (source_of direction arc) visit.node)

  pub settle : IsSearch net dest direction source new_times queue
  settle = record {
    count = same-count ∙ is.count;
    waits = new-waits;
    least = new-least;
    few = new-few;
    first = goes-on source 0 at_source is.first;
    closed = new-closed;
  }

  -- the measure falls: one node less is open, and at most one visit an arc more
  pub fewer : (length new_times - settled new_times) * (length net.arcs + 1) + length queue < (length times - settled times) * (length net.arcs + 1) + length old
  fewer =
      let most : settled new_times ≤ length new_times = count_by-le-length (λ (time : Option ℕ). is_some time) new_times in
      let after : length queue ≡ length (rest ++ next_visits net direction dest visit new_times) = length_permutation (rest ++ next_visits net direction dest visit new_times) queue step.queued in
      let parts : length (rest ++ next_visits net direction dest visit new_times) ≡ length rest + length (next_visits net direction dest visit new_times) = length-append rest (next_visits net direction dest visit new_times) in
      let short : length (next_visits net direction dest visit new_times) ≤ length (arcs_at direction net visit.node) =
      filter_map-short (λ e. option_and_then (next_visit direction dest visit new_times) (arc_at net e)) (arcs_at direction net visit.node) in
      let few : length (arcs_at direction net visit.node) ≤ length net.arcs = arcs.few (λ arc. source_of direction arc == visit.node) in
      let before : suc (length rest) ≡ length old = length_permutation old (visit ∷ rest) step.moved in
      falls (length times) (settled times) (length net.arcs) (length new_times) (settled new_times) (length queue) (length old) same-count one-more (omega arith) (omega arith)
