-- Entries by plain sums over the tables as they were before an extent are the grid's.
use Rattle.std.proofs.Common.{ℕ, ◌≡◌, ◌≢◌, ◌+◌, ◌-◌, ◌*◌, ◌<◌, ◌≤◌, max, List, ◌++◌, length, get_or, Option, None, Some, false, refl, sym, ◌∙◌, ap, subst, arith, ⊎_elim, inl, if◌then◌else◌, nat_lt, ◌==◌}
use Rattle.std.proofs.Math.ListN.{get_or-eq_default}
use Rattle.std.proofs.Math.Nat.{mul-le-mul_right}
use Rattle.std.proofs.lemmas.List.{length-append, get_or_append_left, get_or-append_right}
use Rattle.std.proofs.lemmas.Bool.{cases_lt, cases_eq, eq-eqb, ne_eqb, lt-ltb, le-ltb}
use Rattle.sota_units.specs.Rounding.{ONE, floor_by, ceiling_by}
use Rattle.sota_hist.specs.Time.{total, is_closed, least_tick}
use Rattle.sota_network.specs.Network.{Net, IsNode, IsArc, arc_at}
use Rattle.sota_network.specs.Grid.{lo, hi, choice, plain_sum, best_sum, best_of, choice_of}
use Rattle.sota_network.specs.declared.network.Arc.{Arc}
use Rattle.sota_kept.specs.Ticks.{END_LIMIT, least_to}
use Rattle.sota_kept.specs.NodeTables.{NodeTable, IsReadyAt, AreReady, IsExtent, known_end, lower_of, upper_of, lower_in, upper_in, entry_from}
use Rattle.sota_kept.specs.Asks.{IsGridEntry}
use Rattle.sota_tables.specs.Views.{TablesView, OnlyAt, table_at, room_of, longer_table}
use Rattle.sota_fill.specs.Laws.{Fillable}
use Rattle.sota_fill.specs.Fills.{IsLonger, IsUnfilled, ReadsGrid}

-- ---- no value is above one
past-end : (xs : List ℕ) (k : ℕ) → length xs ≤ k → get_or xs k 0 ≡ 0
past-end xs k h = get_or-eq_default xs 0 h

row-le : (row : List ℕ) (front base : ℕ) (f : ℕ → ℕ) → length row ≡ front - base → ((u : ℕ) → base ≤ u → u < front → (if nat_lt u base then 0 else get_or row (u - base) 0) ≡ f u) → ((u : ℕ) → f u ≤ ONE) → (u : ℕ)
    → (if nat_lt u base then 0 else get_or row (u - base) 0) ≤ ONE
row-le row front base f long is most u =
    ⊎_elim
    (λ (low : u < base). rw (lt-ltb u base low) (omega arith))
    (λ (high : base ≤ u).
    ⊎_elim
    (λ (old : u < front). omega (arith, is u high old, most u))
    (λ (late : front ≤ u).
    let none : get_or row (u - base) 0 ≡ 0 = past-end row (u - base) (omega (arith, long)) in
    rw (le-ltb u base high) (omega (arith, none)))
    (cases_lt u front))
    (cases_lt u base)

in-le : (dest j v : ℕ) → (j ≢ dest → v ≤ ONE) → (if j == dest then ONE else v) ≤ ONE
in-le dest j v most =
    ⊎_elim
    (λ (at : j ≡ dest). rw (eq-eqb j dest at) (omega arith))
    (λ (off : j ≡ dest → ⊥). rw (ne_eqb j dest off) (most off))
    (cases_eq j dest)

-- no best worth is above a bound of all
best-bound : (net : Net) → Fillable net → (worth : Arc → ℕ) (m i : ℕ) → ((e : ℕ) (arc : Arc) → arc_at net e ≡ Some arc → worth arc ≤ m) → (found : Option ℕ) → choice_of net.arcs worth i ≡ found → best_of net.arcs worth i ≤ m
best-bound net laws worth m i bound None none = omega (arith, (laws.unchosen worth i).0 none)
best-bound net laws worth m i bound (Some e) some =
    let first = laws.found worth i e some in
    omega (arith, first.greatest, bound e first.arc first.number)

-- a table of values of at most one has no sum above the scale
pub sum-le : (net : Net) → Fillable net → (f : ℕ → ℕ → ℕ) → ((j u : ℕ) → IsNode net j → f j u ≤ ONE) → (i t : ℕ) → best_sum net f i t ≤ net.scale * ONE
sum-le net laws f bound i t =
    best-bound net laws (λ (arc : Arc). plain_sum arc f t) (net.scale * ONE) i
    (λ e arc at.
    let is : IsArc net arc = laws.arc e arc at in
    let most : plain_sum arc f t ≤ total arc.time * ONE = laws.sums.whole (f arc.head) ONE t arc.time is.time (λ u early. bound arc.head u is.head) in
    let whole : total arc.time * ONE ≤ net.scale * ONE = mul-le-mul_right ONE is.total in
    omega (arith, most, whole))
    (choice_of net.arcs (λ (arc : Arc). plain_sum arc f t) i) refl

module _ (net : Net) (laws : Fillable net) (dest : ℕ) (tables : ℕ → NodeTable) (ready : AreReady net dest tables) where
  pub best-lower_le : (i t : ℕ) → best_sum net (lower_in dest tables) i t ≤ net.scale * ONE
  best-lower_le i t =
      sum-le net laws (lower_in dest tables)
      (λ j u node. in-le dest j (lower_of (tables j) u)
      (λ off. let kept = (ready j node off).settled.kept in row-le (tables j).lower (tables j).front (tables j).base (lo net dest j) kept.shape.lower kept.lower (λ u. omega (arith, laws.order dest j u, laws.whole dest j u)) u))
      i t

  pub best-upper_le : (i t : ℕ) → best_sum net (upper_in dest tables) i t ≤ net.scale * ONE
  best-upper_le i t =
      sum-le net laws (upper_in dest tables)
      (λ j u node. in-le dest j (upper_of (tables j) u)
      (λ off. let kept = (ready j node off).settled.kept in row-le (tables j).upper (tables j).front (tables j).base (hi net dest j) kept.shape.upper kept.upper (laws.whole dest j) u))
      i t

  -- ---- what an extent reads is the grid's
  reads-lower : (i to : ℕ) → IsExtent net dest tables i to → (e : ℕ) (arc : Arc) → arc_at net e ≡ Some arc → arc.tail ≡ i → is_closed arc.time ≡ false → (u : ℕ) → u + least_tick arc.time < to
      → (lower_in dest tables arc.head u ≡ lo net dest arc.head u) × (upper_in dest tables arc.head u ≡ hi net dest arc.head u)
  reads-lower i to extent e arc at tail open_arc u less =
      ⊎_elim
      (λ (here : arc.head ≡ dest).
      let there = laws.at_dest dest u in
      rw (eq-eqb arc.head dest here, here) (sym there.0, sym there.1))
      (λ (off : arc.head ≡ dest → ⊥).
      let far : to ≤ known_end (tables arc.head) + least_tick arc.time = extent e arc at tail open_arc off in
      let known : u < known_end (tables arc.head) = omega (arith, far, less) in
      rw (ne_eqb arc.head dest off) (laws.settled dest arc.head u (tables arc.head) (ready arc.head (laws.arc e arc at).head off).settled known))
      (cases_eq arc.head dest)

  pub reads-grid : (i to : ℕ) → IsExtent net dest tables i to → ReadsGrid net dest i to tables
  reads-grid i to extent e arc at tail = record {
    lower = λ open_arc u less. (reads-lower i to extent e arc at tail open_arc u less).0;
    upper = λ open_arc u less. (reads-lower i to extent e arc at tail open_arc u less).1;
  }

-- ---- entries at the known end
-- what a row has at a budget from the base on, with more values at the known end
row-longer : {X : Type 0} (old more : List X) (d : X) (value : ℕ → X) (front base n t : ℕ) → length old ≡ front - base → base ≤ t → t < max front base + n → (t < front → get_or old (t - base) d ≡ value t)
    → ((x : ℕ) → x < n → get_or more x d ≡ value (max front base + x)) → get_or (old ++ more) (t - base) d ≡ value t
row-longer old more d value front base n t long up less kept found =
    ⊎_elim
    (λ (early : t < front). get_or_append_left old more d (t - base) (omega (arith, long)) ∙ kept early)
    (λ (late : front ≤ t).
    let place : t - base - (front - base) ≡ t - max front base = omega arith in
    let inside : t - max front base < n = omega arith in
    let at : max front base + (t - max front base) ≡ t = omega arith in
    get_or-append_right old more (front - base) (t - base) d long (omega arith) ∙ ap (λ (k : ℕ). get_or more k d) place ∙ found (t - max front base) inside ∙ ap value at)
    (cases_lt t front)

-- the entries that were found are the grid's
pub record AreGridEntries (net : Net) (dest i from : ℕ) (ls us : List ℕ) (cs : List (Option ℕ)) : Type 0 where
  pub entry : (x : ℕ) → x < length ls → IsGridEntry net dest i (from + x) (record { lower = get_or ls x 0; upper = get_or us x 0; choice = get_or cs x None })
  pub upper : length us ≡ length ls
  pub choices : length cs ≡ length ls

pub ready-longer : (net : Net) (dest i : ℕ) (s : NodeTable) (ls us : List ℕ) (cs : List (Option ℕ)) → IsReadyAt net dest i s → AreGridEntries net dest i (known_end s) ls us cs
    → 1 ≤ length ls → known_end s + length ls ≤ END_LIMIT → IsReadyAt net dest i (longer_table ls us cs s)
ready-longer net dest i s ls us cs is found some room =
    let kept = is.settled.kept in
    let shape = kept.shape in
    let n : ℕ = length ls in
    let early : (t : ℕ) → t < s.base → (lo net dest i t ≡ 0) × (hi net dest i t ≡ 0) = is.settled.empty in
    record {
      settled = record {
        kept = record {
          shape = record {
            front = room;
            base = shape.base;
            lower = length-append s.lower ls ∙ omega (arith, shape.lower);
            upper = length-append s.upper us ∙ omega (arith, shape.upper, found.upper);
            choices = length-append s.choices cs ∙ omega (arith, shape.choices, found.choices);
          };
          lower = λ t up less. rw (le-ltb t s.base up) (row-longer s.lower ls 0 (lo net dest i) s.front s.base n t shape.lower up less (λ old. rw (le-ltb t s.base up) at (kept.lower t up old)) (λ x h. (found.entry x h).lower));
          upper = λ t up less. rw (le-ltb t s.base up) (row-longer s.upper us 0 (hi net dest i) s.front s.base n t shape.upper up less (λ old. rw (le-ltb t s.base up) at (kept.upper t up old)) (λ x h. (found.entry x h).upper));
          choice = λ t up less. rw (le-ltb t s.base up) (row-longer s.choices cs None (choice net dest i) s.front s.base n t shape.choices up less (λ old. rw (le-ltb t s.base up) at (kept.choice t up old)) (λ x h. (found.entry x h).choice));
          below = λ t less. early t (omega arith);
          least = ⊎_elim (λ (low : s.base ≤ least_to net dest i). inl low) (λ (low : s.front ≤ least_to net dest i). inl (let same : s.base ≡ least_to net dest i = is.based low in omega arith)) kept.least;
        };
        empty = early;
      };
      based = λ low. is.based (omega arith);
    }

-- ---- an extent more
pub longer-extent : (i count : ℕ) (ls us : List ℕ) (cs : List (Option ℕ)) (old new : TablesView) → length ls ≡ count → 1 ≤ count → OnlyAt i old new → table_at new i ≡ longer_table ls us cs (table_at old i)
    → room_of new i + length ls ≡ room_of old i → ((j : ℕ) → 1 ≤ j → j ≢ i → room_of new j ≡ room_of old j) → IsLonger i count old new
longer-extent i count ls us cs old new long some only made room rooms =
    let base : (table_at new i).base ≡ (table_at old i).base = ap (λ (s : NodeTable). s.base) made in
    let front : (table_at new i).front ≡ known_end (table_at old i) + length ls = ap (λ (s : NodeTable). s.front) made in
    record {
      only = only;
      base = base;
      end = omega arith;
      front = λ _. omega arith;
      still = λ h. absurd (omega arith);
      room = omega arith;
      rooms = rooms;
    }

pub longer-none : (i : ℕ) (v : TablesView) → IsLonger i 0 v v
longer-none i v = record {
  only = record { dest = refl; nodes = refl; bases = refl; others = λ j low off. refl };
  base = refl;
  end = omega arith;
  front = λ h. absurd (omega arith);
  still = λ h. refl;
  room = omega arith;
  rooms = λ j low off. refl;
}

-- the entries by the best sums are the grid's
pub entries-grid : (net : Net) → Fillable net → (dest i from to : ℕ) (old : TablesView) (ls us : List ℕ) (cs : List (Option ℕ)) (lower upper : List ℕ) → IsUnfilled net dest i from to old → from + length ls ≤ to → length us ≡ length ls → length cs ≡ length ls
    → ((x : ℕ) → x < length ls → get_or ls x 0 ≡ floor_by net.scale (get_or lower x 0)) → ((x : ℕ) → x < length ls → get_or us x 0 ≡ ceiling_by net.scale (get_or upper x 0))
    → ((x : ℕ) → x < length ls → get_or lower x 0 ≡ best_sum net (lower_in dest (table_at old)) i (from + x)) → ((x : ℕ) → x < length ls → get_or upper x 0 ≡ best_sum net (upper_in dest (table_at old)) i (from + x))
    → ((x : ℕ) → x < length ls → get_or cs x None ≡ choice_of net.arcs (λ arc. plain_sum arc (lower_in dest (table_at old)) (from + x)) i)
    → AreGridEntries net dest i from ls us cs
entries-grid net laws dest i from to old ls us cs lower upper is within upper-long choices-long floors ceilings lowers uppers choices = record {
  entry = λ x less.
      let right : IsGridEntry net dest i (from + x) (entry_from net (lower_in dest (table_at old)) (upper_in dest (table_at old)) i (from + x)) =
      laws.entry dest i (from + x) (table_at old) is.off is.ready (λ j u reads. laws.known dest i to (from + x) j u (table_at old) is.extent (omega arith) reads) in
      record {
        lower = floors x less ∙ ap (floor_by net.scale) (lowers x less) ∙ right.lower;
        upper = ceilings x less ∙ ap (ceiling_by net.scale) (uppers x less) ∙ right.upper;
        choice = choices x less ∙ right.choice;
      };
  upper = upper-long;
  choices = choices-long;
}

pub longer-ready : (net : Net) (dest i from to : ℕ) (old new : TablesView) (ls us : List ℕ) (cs : List (Option ℕ)) → IsUnfilled net dest i from to old → AreGridEntries net dest i from ls us cs → 1 ≤ length ls → from + length ls ≤ to
    → OnlyAt i old new → table_at new i ≡ longer_table ls us cs (table_at old i) → AreReady net dest (table_at new)
longer-ready net dest i from to old new ls us cs is found some within only made = λ j node apart.
    ⊎_elim
    (λ (same : j ≡ i).
    let here : AreGridEntries net dest i (known_end (table_at old i)) ls us cs = subst (λ (t : ℕ). AreGridEntries net dest i t ls us cs) is.start found in
    let entry : IsReadyAt net dest i (table_at new i) =
    subst (λ (s : NodeTable). IsReadyAt net dest i s) (sym made) (ready-longer net dest i (table_at old i) ls us cs (is.ready i is.node is.off) here some (omega (arith, is.start, is.limit))) in
    subst (λ (k : ℕ). IsReadyAt net dest k (table_at new k)) (sym same) entry)
    (λ (other : j ≡ i → ⊥). subst (λ (s : NodeTable). IsReadyAt net dest j s) (sym (only.others j node.0 other)) (is.ready j node apart))
    (cases_eq j i)

-- ---- extents in parts
pub longer-more : (i a b : ℕ) (old now new : TablesView) → IsLonger i a old now → IsLonger i b now new → IsLonger i (a + b) old new
longer-more i a b old now new one two = record {
  only = record {
    dest = two.only.dest ∙ one.only.dest;
    nodes = two.only.nodes ∙ one.only.nodes;
    bases = two.only.bases ∙ one.only.bases;
    others = λ j low off. two.only.others j low off ∙ one.only.others j low off;
  };
  base = two.base ∙ one.base;
  end = omega (arith, one.end, two.end);
  front = λ some.
      ⊎_elim
      (λ (more : 0 < b). omega (arith, two.front more, one.end))
      (λ (none : b ≤ 0).
      let front : (table_at now i).front ≡ known_end (table_at old i) + a = one.front (omega arith) in
      let kept : (table_at new i).front ≡ (table_at now i).front = two.still (omega arith) in
      omega arith)
      (cases_lt 0 b);
  still = λ none. two.still (omega arith) ∙ one.still (omega arith);
  room = omega (arith, one.room, two.room);
  rooms = λ j low off. two.rooms j low off ∙ one.rooms j low off;
}

-- what is left of an extent is to be filled
pub unfilled-left : (net : Net) → Fillable net → (dest i from to a to' : ℕ) (old now : TablesView) → IsUnfilled net dest i from to old → IsLonger i a old now → AreReady net dest (table_at now) → from + a < to' → to' ≤ to
    → IsUnfilled net dest i (from + a) to' now
unfilled-left net laws dest i from to a to' old now unfilled is ready some less = record {
  valid = unfilled.valid;
  node = unfilled.node;
  off = unfilled.off;
  nodes = is.only.nodes ∙ unfilled.nodes;
  ready = ready;
  start = omega (arith, unfilled.start, is.end);
  some = some;
  extent = λ e arc at tail open_arc off.
      let far : to ≤ known_end (table_at old arc.head) + least_tick arc.time = unfilled.extent e arc at tail open_arc off in
      ⊎_elim
      (λ (same : arc.head ≡ i).
      let far' : to ≤ known_end (table_at old i) + least_tick arc.time = subst (λ (k : ℕ). to ≤ known_end (table_at old k) + least_tick arc.time) same far in
      let end : known_end (table_at now arc.head) ≡ known_end (table_at now i) = ap (λ (k : ℕ). known_end (table_at now k)) same in
      omega (arith, is.end))
      (λ (apart : arc.head ≡ i → ⊥).
      let node : IsNode net arc.head = (laws.arc e arc at).head in
      let kept : known_end (table_at now arc.head) ≡ known_end (table_at old arc.head) = ap known_end (is.only.others arc.head node.0 apart) in
      omega arith)
      (cases_eq arc.head i);
  limit = omega (arith, unfilled.limit);
  room = omega (arith, unfilled.room, is.room);
}
