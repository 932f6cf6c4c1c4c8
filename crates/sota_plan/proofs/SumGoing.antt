-- The summers of arcs, extent by extent.
use Rattle.std.proofs.Common.{ℕ, zero, suc, ◌≡◌, ◌≢◌, ◌+◌, ◌-◌, ◌<◌, ◌≤◌, ◌⊎◌, inl, inr, ◌==◌, ◌&&◌, nat_lt, nat_le, Bool, true, false, List, [], ◌∷◌, map, length, get_or, if◌then◌else◌, Option, None, Some, refl, sym, ◌∙◌, ap, subst, arith, ⊎_elim}
use Rattle.std.specs.List.{All, Contains}
use Rattle.std.proofs.lemmas.Bool.{cases_eq, cases_lt, cases_Bool, eqb-true, lt-ltb, le-ltb, lt-leb, le-leb, true≢false}
use Rattle.std.proofs.lemmas.Option.{none-some}
use Rattle.sota_hist.specs.Time.{is_closed, least_tick, within}
use Rattle.sota_network.specs.Network.{Net, IsNode, arc_at}
use Rattle.sota_network.specs.Numbers.{numbers}
use Rattle.sota_network.specs.Grid.{lo, hi}
use Rattle.sota_network.specs.Walks.{Walk, step}
use Rattle.sota_network.specs.Reach.{reaches}
use Rattle.sota_network.specs.Region.{NARROW, pairs_at}
use Rattle.sota_network.specs.declared.network.Arc.{Arc}
use Rattle.sota_online.specs.Summer.{SummerState, kernel_of, unfed}
use Rattle.sota_bounds.specs.Search.{time_at}
use Rattle.sota_bounds.specs.Cells.{pairs_by_need}
use Rattle.sota_bounds.specs.Regions.{IsRegion}
use Rattle.sota_bounds.specs.declared.ask.AskRegion.{AskRegion}
use Rattle.sota_kept.specs.Ticks.{END_LIMIT, up_to, least_to}
use Rattle.sota_kept.specs.NodeTables.{NodeTable, IsGrownAt, known_end}
use Rattle.sota_tables.specs.Views.{TablesView, table_at}
use Rattle.sota_fill.specs.declared.broad.Summers.{Summers}
use Rattle.sota_fill.specs.Fed.{IsFed, AllFed, SummersList, summers_at}
use Rattle.sota_fill.specs.Fills.{IsLonger}
use Rattle.sota_plan.specs.Runs.{ArcSums, states_of, is_broad, most_fed, first_position, first_sums, values_fed, HasPlaces, HasSpent}
use Rattle.sota_plan.specs.Summed.{IsSummed, SummedAs, CanFeed, AllCanFeed, values_below}
use Rattle.sota_plan.proofs.Extends.{AllSummed, fed_so_far}
use Rattle.sota_plan.specs.Laws.{TimeLaws}
use Rattle.sota_plan.specs.Steps.{base_by}
use Rattle.sota_plan.proofs.FedMore.{get_or-default}

-- an arc that has a number has one from 1 on
pub number-low : (net : Net) (e : ℕ) (arc : Arc) → arc_at net e ≡ Some arc → 1 ≤ e
number-low net zero arc at = absurd (none-some arc at)
number-low net (suc e) arc at = omega arith

-- ---- a walk over the numbers of the arcs that leave a node
abbrev pub Outs : Net → ℕ → Type 0
Outs net node = All (λ (e : ℕ). (arc : Arc) × (arc_at net e ≡ Some arc) × ((arc.tail == node) ≡ true)) (numbers (λ (arc : Arc). arc.tail == node) 1 net.arcs)

pub out-tail : (net : Net) (node : ℕ) (es : List ℕ) (k e : ℕ) (arc : Arc) → Outs net node → es ≡ numbers (λ (arc : Arc). arc.tail == node) 1 net.arcs → k < length es → e ≡ get_or es k e
    → arc_at net e ≡ Some arc → arc.tail ≡ node
out-tail net node es k e arc outs same h is number =
    let there : k < length (numbers (λ (arc : Arc). arc.tail == node) 1 net.arcs) = subst (λ (xs : List ℕ). k < length xs) same h in
    let at : e ≡ get_or (numbers (λ (arc : Arc). arc.tail == node) 1 net.arcs) k e = is ∙ ap (λ (xs : List ℕ). get_or xs k e) same in
    let out = subst (λ (i : ℕ). (a : Arc) × (arc_at net i ≡ Some a) × ((a.tail == node) ≡ true)) (sym at) (outs k e there) in
    let both : Some out.0 ≡ Some arc = sym out.1 ∙ number in
    let found : out.0 ≡ arc = cc in
    ap (λ (x : Arc). x.tail) (sym found) ∙ eqb-true out.0.tail node out.2

-- ---- the summers of the arcs that leave a node are fed one after another
module _ {Z : Type 0} (state : Z → SummerState) (net : Net) (dest node to : ℕ) (es : List ℕ) where
  -- those of the first k of these numbers are fed, and each other is as before or fed
  pub record FedSome (k : ℕ) (old now : SummersList Z) : Type 0 where
    pub same : length now ≡ length old
    pub each : (e : ℕ) (arc : Arc) (count total start : ℕ) → arc_at net e ≡ Some arc → arc.tail ≡ node → SummedAs state net dest arc count total start (summers_at old e) → count ≤ values_below net dest arc to
        → SummedAs state net dest arc count total start (summers_at now e) ⊎ SummedAs state net dest arc (values_below net dest arc to) total start (summers_at now e)
    pub done : (j e : ℕ) (arc : Arc) (count total start : ℕ) → j < k → e ≡ get_or es j e → arc_at net e ≡ Some arc → arc.tail ≡ node → SummedAs state net dest arc count total start (summers_at old e) → count ≤ values_below net dest arc to
        → SummedAs state net dest arc (values_below net dest arc to) total start (summers_at now e)
    pub others : (e : ℕ) (arc : Arc) → arc_at net e ≡ Some arc → arc.tail ≢ node → summers_at now e ≡ summers_at old e
    pub none : (e : ℕ) → 1 ≤ e → summers_at old e ≡ None → summers_at now e ≡ None

  pub fed-first : (old : SummersList Z) → FedSome 0 old old
  fed-first old = record {
    same = refl;
    each = λ e arc count total start at tail summed less. inl summed;
    done = λ j e arc count total start early is at tail summed less. absurd (omega arith);
    others = λ e arc at off. refl;
    none = λ e low is. is;
  }

  -- what is there can be fed
  can-found : (places k : ℕ) (old now : SummersList Z) → FedSome k old now → AllCanFeed state net dest node to places old → (e : ℕ) (arc : Arc) (two : Summers Z) → arc_at net e ≡ Some arc → arc.tail ≡ node → summers_at now e ≡ Some two
      → (first : Option (Summers Z)) → summers_at old e ≡ first → CanFeed state net dest arc to places two
  can-found places k old now fed all e arc two at tail is None before =
      let none : None ≡ Some two = sym (fed.none e (number-low net e arc at) before) ∙ is in
      absurd (none-some two none)
  can-found places k old now fed all e arc two at tail is (Some one) before =
      let can : CanFeed state net dest arc to places one = all e arc one at tail before in
      ⊎_elim
      (λ (kept : SummedAs state net dest arc can.count can.total can.start (summers_at now e)).
      let same : kept.two ≡ two = (let both : Some kept.two ≡ Some two = sym kept.are ∙ is in cc) in
      record { count = can.count; total = can.total; start = can.start; is = subst (λ (s : Summers Z). IsSummed state net dest arc can.count can.total can.start s) same kept.is; less = can.less; room = can.room; work = can.work })
      (λ (more : SummedAs state net dest arc (values_below net dest arc to) can.total can.start (summers_at now e)).
      let same : more.two ≡ two = (let both : Some more.two ≡ Some two = sym more.are ∙ is in cc) in
      record {
        count = values_below net dest arc to;
        total = can.total;
        start = can.start;
        is = subst (λ (s : Summers Z). IsSummed state net dest arc (values_below net dest arc to) can.total can.start s) same more.is;
        less = omega arith;
        room = can.room;
        work = can.work;
      })
      (fed.each e arc can.count can.total can.start at tail (record { two = one; are = before; is = can.is }) can.less)

  pub fed-can : (places k : ℕ) (old now : SummersList Z) → FedSome k old now → AllCanFeed state net dest node to places old → (e : ℕ) (arc : Arc) (two : Summers Z) → arc_at net e ≡ Some arc → arc.tail ≡ node → summers_at now e ≡ Some two
      → CanFeed state net dest arc to places two
  fed-can places k old now fed all e arc two at tail is = can-found places k old now fed all e arc two at tail is (summers_at old e) refl

  -- one arc more
  pub fed-some-more : (k : ℕ) (old now new : SummersList Z) (number : ℕ) → ((arc : Arc) → arc_at net number ≡ Some arc → arc.tail ≡ node) → k < length es → number ≡ get_or es k number → FedSome k old now
      → ((arc : Arc) (count total start : ℕ) → arc_at net number ≡ Some arc → SummedAs state net dest arc count total start (summers_at now number) → count ≤ values_below net dest arc to
      → SummedAs state net dest arc (values_below net dest arc to) total start (summers_at new number))
      → (summers_at now number ≡ None → summers_at new number ≡ None) → ((e : ℕ) → 1 ≤ e → e ≢ number → summers_at new e ≡ summers_at now e) → length new ≡ length now → FedSome (k + 1) old new
  fed-some-more k old now new number tails inside read fed fed-here none-here others long =
      let here : (e : ℕ) (arc : Arc) (count total start : ℕ) → e ≡ number → arc_at net e ≡ Some arc → arc.tail ≡ node → SummedAs state net dest arc count total start (summers_at old e) → count ≤ values_below net dest arc to
      → SummedAs state net dest arc (values_below net dest arc to) total start (summers_at new e) =
      λ e arc count total start same at tail summed less.
      let at' : arc_at net number ≡ Some arc = subst (λ (n : ℕ). arc_at net n ≡ Some arc) same at in
      subst (λ (n : ℕ). SummedAs state net dest arc (values_below net dest arc to) total start (summers_at new n)) (sym same)
      (⊎_elim
      (λ (kept : SummedAs state net dest arc count total start (summers_at now e)). fed-here arc count total start at' (subst (λ (n : ℕ). SummedAs state net dest arc count total start (summers_at now n)) same kept) less)
      (λ (more : SummedAs state net dest arc (values_below net dest arc to) total start (summers_at now e)).
      fed-here arc (values_below net dest arc to) total start at' (subst (λ (n : ℕ). SummedAs state net dest arc (values_below net dest arc to) total start (summers_at now n)) same more) (omega arith))
      (fed.each e arc count total start at tail summed less)) in
      record {
        same = long ∙ fed.same;
        each = λ e arc count total start at tail summed less.
            ⊎_elim
            (λ (same : e ≡ number). inr (here e arc count total start same at tail summed less))
            (λ (off : e ≡ number → ⊥).
            subst (λ (o : Option (Summers Z)). SummedAs state net dest arc count total start o ⊎ SummedAs state net dest arc (values_below net dest arc to) total start o) (sym (others e (number-low net e arc at) off))
            (fed.each e arc count total start at tail summed less))
            (cases_eq e number);
        done = λ j e arc count total start early is at tail summed less.
            ⊎_elim
            (λ (same : e ≡ number). here e arc count total start same at tail summed less)
            (λ (off : e ≡ number → ⊥).
            let before : j < k =
            ⊎_elim (λ (less' : j < k). less')
            (λ (past : k ≤ j).
            let last : j ≡ k = omega arith in
            let found : e ≡ number = is ∙ ap (λ (n : ℕ). get_or es n e) last ∙ get_or-default es k e number inside ∙ sym read in
            absurd (off found))
            (cases_lt j k) in
            subst (λ (o : Option (Summers Z)). SummedAs state net dest arc (values_below net dest arc to) total start o) (sym (others e (number-low net e arc at) off))
            (fed.done j e arc count total start before is at tail summed less))
            (cases_eq e number);
        others = λ e arc at off.
            let apart : e ≢ number = λ same. off (tails arc (subst (λ (n : ℕ). arc_at net n ≡ Some arc) same at)) in
            others e (number-low net e arc at) apart ∙ fed.others e arc at off;
        none = λ e low is.
            ⊎_elim
            (λ (same : e ≡ number).
            let was : summers_at now number ≡ None = subst (λ (n : ℕ). summers_at now n ≡ None) same (fed.none e low is) in
            subst (λ (n : ℕ). summers_at new n ≡ None) (sym same) (none-here was))
            (λ (off : e ≡ number → ⊥). others e low off ∙ fed.none e low is)
            (cases_eq e number);
      }

  pub fed-all : (k : ℕ) (old now : SummersList Z) → es ≡ numbers (λ (arc : Arc). arc.tail == node) 1 net.arcs → length es ≤ k → FedSome k old now → (e : ℕ) (arc : Arc) (count total start : ℕ) → arc_at net e ≡ Some arc → arc.tail ≡ node
      → Contains (numbers (λ (arc : Arc). arc.tail == node) 1 net.arcs) e → SummedAs state net dest arc count total start (summers_at old e) → count ≤ values_below net dest arc to
      → SummedAs state net dest arc (values_below net dest arc to) total start (summers_at now e)
  fed-all k old now same past fed e arc count total start at tail has summed less =
      let there : has.0 < length es = subst (λ (xs : List ℕ). has.0 < length xs) (sym same) has.1 in
      let is : e ≡ get_or es has.0 e = sym has.2 ∙ ap (λ (xs : List ℕ). get_or xs has.0 e) (sym same) in
      fed.done has.0 e arc count total start (omega arith) is at tail summed less

-- ---- least times
le-from : (m n : ℕ) → nat_le m n ≡ true → m ≤ n
le-from m n h = ⊎_elim (λ (less : n < m). absurd (true≢false (sym h ∙ lt-leb m n less))) (λ (le : m ≤ n). le) (cases_lt n m)

lt-from : (m n : ℕ) → nat_lt m n ≡ true → m < n
lt-from m n h = ⊎_elim (λ (less : m < n). less) (λ (le : n ≤ m). absurd (true≢false (sym h ∙ le-ltb m n le))) (cases_lt m n)

module _ (net : Net) (dest : ℕ) (laws : TimeLaws net dest) where
  -- before the least time the values are 0
  pub zero-below : (i u : ℕ) → u < least_to net dest i → (lo net dest i u ≡ 0) × (hi net dest i u ≡ 0)
  zero-below i u early =
      let far : reaches net dest dest i u ≡ false = laws.reach i u (omega (arith, early, laws.most i)) ∙ lt-leb (least_to net dest i) u early in
      let none : hi net dest i u ≡ 0 = laws.below i u far in
      (omega (arith, none, laws.order i u), none)

  -- no detour is shorter
  triangle-by : (arc : Arc) (n : ℕ) → Walk net dest arc.tail dest (least_tick arc.time + n) → n ≤ least_to net dest arc.head → least_to net dest arc.tail ≤ least_tick arc.time + least_to net dest arc.head
  triangle-by arc n walk less =
      ⊎_elim
      (λ (inside : least_tick arc.time + n < END_LIMIT).
      let there : reaches net dest dest arc.tail (least_tick arc.time + n) ≡ true = laws.onward arc.tail (least_tick arc.time + n) (least_tick arc.time + n) walk (omega arith) in
      let low : least_to net dest arc.tail ≤ least_tick arc.time + n = le-from (least_to net dest arc.tail) (least_tick arc.time + n) (sym (laws.reach arc.tail (least_tick arc.time + n) inside) ∙ there) in
      omega arith)
      (λ (past : END_LIMIT ≤ least_tick arc.time + n). omega (arith, laws.most arc.tail))
      (cases_lt (least_tick arc.time + n) END_LIMIT)

  pub triangle : (e : ℕ) (arc : Arc) → arc_at net e ≡ Some arc → arc.tail ≢ dest → is_closed arc.time ≡ false → least_to net dest arc.tail ≤ least_tick arc.time + least_to net dest arc.head
  triangle e arc at off opened =
      ⊎_elim
      (λ (inside : least_to net dest arc.head < END_LIMIT).
      let there : reaches net dest dest arc.head (least_to net dest arc.head) ≡ true =
      laws.reach arc.head (least_to net dest arc.head) inside ∙ le-leb (least_to net dest arc.head) (least_to net dest arc.head) (omega arith) in
      let way = laws.walk arc.head (least_to net dest arc.head) there in
      triangle-by arc way.0 (step {j = dest} {n = way.0} e arc at off opened way.1) way.2)
      (λ (never : END_LIMIT ≤ least_to net dest arc.head). omega (arith, laws.most arc.tail))
      (cases_lt (least_to net dest arc.head) END_LIMIT)

-- ---- broad arcs
open-within : (t : ℕ) (ps : List (ℕ × ℕ)) → 1 ≤ length (within t ps) → is_closed ps ≡ false
open-within t [] some = absurd (omega arith)
open-within t (p ∷ ps) some = refl

broad-parts : (a b : Bool) → (a && b) ≡ true → (a ≡ true) × (b ≡ true)
broad-parts true true h = (refl, refl)
broad-parts true false h = absurd (true≢false (sym h))
broad-parts false b h = absurd (true≢false (sym h))

pairs-needed : (needed least : ℕ) (time : Option ℕ) → needed ≤ END_LIMIT → up_to END_LIMIT time ≡ least → 0 < pairs_by_need time needed → pairs_by_need time needed ≡ needed - least
pairs-needed needed least None within at some = absurd (omega arith)
pairs-needed needed least (Some to) within at some = omega (arith, at, some)

module _ (net : Net) (region : AskRegion) (laws : TimeLaws net region.dest) (is : IsRegion region net region.origin region.dest region.budget) (times : (i : ℕ) → IsNode net i → up_to END_LIMIT (time_at region.least i) ≡ least_to net region.dest i)
    (needs : (i : ℕ) → IsNode net i → get_or region.need (i - 1) 0 ≤ END_LIMIT) (at-dest : pairs_at net region.origin region.dest region.budget region.dest ≡ 0) where
  pub broad-open : (arc : Arc) → is_broad net region arc ≡ true → is_closed arc.time ≡ false
  broad-open arc broad =
      let parts = broad-parts (nat_lt 0 (most_fed net region arc)) (nat_lt NARROW (length (within region.budget arc.time))) broad in
      let many : NARROW < length (within region.budget arc.time) = lt-from NARROW (length (within region.budget arc.time)) parts.1 in
      open-within region.budget arc.time (omega arith)

  -- there is room for all that the tail's entries up to its need rest on
  pub room-fits : (e : ℕ) (arc : Arc) (to : ℕ) → arc_at net e ≡ Some arc → is_broad net region arc ≡ true → to ≤ get_or region.need (arc.tail - 1) 0 → values_below net region.dest arc to ≤ most_fed net region arc
  room-fits e arc to at broad less =
      let parts = broad-parts (nat_lt 0 (most_fed net region arc)) (nat_lt NARROW (length (within region.budget arc.time))) broad in
      let some : 0 < most_fed net region arc = lt-from 0 (most_fed net region arc) parts.0 in
      let tail : IsNode net arc.tail = (laws.arc e arc at).tail in
      let needed : ℕ = get_or region.need (arc.tail - 1) 0 in
      let pairs : most_fed net region arc ≡ pairs_by_need (time_at region.least arc.tail) needed = is.pairs arc.tail tail in
      let count : pairs_by_need (time_at region.least arc.tail) needed ≡ needed - least_to net region.dest arc.tail =
      pairs-needed needed (least_to net region.dest arc.tail) (time_at region.least arc.tail) (needs arc.tail tail) (times arc.tail tail) (omega (arith, some, pairs)) in
      let off : arc.tail ≢ region.dest = λ same. (let zero' : most_fed net region arc ≡ 0 = ap (λ (i : ℕ). pairs_at net region.origin region.dest region.budget i) same ∙ at-dest in omega arith) in
      let way : least_to net region.dest arc.tail ≤ least_tick arc.time + least_to net region.dest arc.head = triangle net region.dest laws e arc at off (broad-open arc broad) in
      omega (arith, pairs, count, way, less)

-- ---- no value is fed yet
map-default : {X Y : Type 0} (f : X → Y) (xs : List X) (k : ℕ) (d : X) → get_or (map f xs) k (f d) ≡ f (get_or xs k d)
map-default f [] k d = refl
map-default f (x ∷ xs) zero d = refl
map-default f (x ∷ xs) (suc k) d = map-default f xs k d

pub sums-get : {Z : Type 0} (state : Z → SummerState) (broad : SummersList Z) (e : ℕ) → get_or (map (states_of state) broad) (e - 1) None ≡ states_of state (get_or broad (e - 1) None)
sums-get {Z} state broad e = map-default (states_of state) broad (e - 1) None

some-is : {X : Type 0} (x y : X) → Some x ≡ Some y → x ≡ y
some-is x y both = cc

fed-none : (net : Net) (dest : ℕ) → TimeLaws net dest → (arc : Arc) (total start : ℕ) (s : SummerState) (f : ℕ → ℕ) → s ≡ unfed total start arc.time → ((u : ℕ) → u < least_to net dest arc.head → f u ≡ 0)
    → IsFed s arc.time (least_to net dest arc.head) f × (length s.values ≡ 0) × (length s.values + s.room ≡ total) × (s.start ≡ start)
fed-none net dest laws arc total start s f is early =
    subst (λ (x : SummerState). IsFed x arc.time (least_to net dest arc.head) f × (length x.values ≡ 0) × (length x.values + x.room ≡ total) × (x.start ≡ start)) (sym is) (
      record {
        kernel = (let same : total ≡ 0 + total = omega arith in ap (λ (n : ℕ). kernel_of n arc.time) same);
        values = λ a less. absurd (omega arith);
        below = early;
      },
      refl,
      (let same : 0 + total ≡ total = omega arith in same),
      refl,
    )

first-found : {Z : Type 0} (state : Z → SummerState) (net : Net) (dest : ℕ) → TimeLaws net dest → (arc : Arc) (total start : ℕ) (o : Option (Summers Z)) → is_closed arc.time ≡ false
    → states_of state o ≡ Some (record { lower = unfed total start arc.time; upper = unfed total start arc.time }) → SummedAs state net dest arc 0 total start o
first-found {Z} state net dest laws arc total start None opened are = absurd (none-some (record { lower = unfed total start arc.time; upper = unfed total start arc.time }) are)
first-found {Z} state net dest laws arc total start (Some two) opened are =
    let both : record { lower = state two.lower; upper = state two.upper } ≡ record { lower = unfed total start arc.time; upper = unfed total start arc.time } = some-is (record { lower = state two.lower; upper = state two.upper }) (record { lower = unfed total start arc.time; upper = unfed total start arc.time }) are in
    let lower = fed-none net dest laws arc total start (state two.lower) (lo net dest arc.head) (ap (λ (s : ArcSums). s.lower) both) (λ u early. (zero-below net dest laws arc.head u early).0) in
    let upper = fed-none net dest laws arc total start (state two.upper) (hi net dest arc.head) (ap (λ (s : ArcSums). s.upper) both) (λ u early. (zero-below net dest laws arc.head u early).1) in
    record {
      two = two;
      are = refl;
      is = record { open_arc = opened; lower = lower.0; upper = upper.0; lower_count = lower.1; upper_count = upper.1; lower_total = lower.2; upper_total = upper.2; lower_start = lower.3; upper_start = upper.3 };
    }

pub none-found : {Z : Type 0} (state : Z → SummerState) (o : Option (Summers Z)) → states_of state o ≡ None → o ≡ None
none-found {Z} state None are = refl
none-found {Z} state (Some two) are = absurd (none-some (record { lower = state two.lower; upper = state two.upper }) (sym are))

module _ {Z : Type 0} (state : Z → SummerState) (net : Net) (region : AskRegion) (laws : TimeLaws net region.dest) (is : IsRegion region net region.origin region.dest region.budget) (times : (i : ℕ) → IsNode net i → up_to END_LIMIT (time_at region.least i) ≡ least_to net region.dest i)
    (needs : (i : ℕ) → IsNode net i → get_or region.need (i - 1) 0 ≤ END_LIMIT) (at-dest : pairs_at net region.origin region.dest region.budget region.dest ≡ 0) where
  pub summed-first : (before : TablesView) (broad : SummersList Z) → ((e : ℕ) (arc : Arc) → arc_at net e ≡ Some arc → get_or (map (states_of state) broad) (e - 1) None ≡ first_sums net region before arc) → AllSummed state net region before before broad
  summed-first before broad are e arc at = record {
    broad = λ wide.
        let first : states_of state (get_or broad (e - 1) None) ≡ Some (record { lower = unfed (most_fed net region arc) (first_position before region arc) arc.time; upper = unfed (most_fed net region arc) (first_position before region arc) arc.time }) = sym (sums-get state broad e) ∙ are e arc at ∙ (rw wide refl) in
        let still : fed_so_far net region before before arc ≡ 0 = rw (le-ltb (known_end (table_at before arc.tail)) (known_end (table_at before arc.tail)) (omega arith)) refl in
        subst (λ (n : ℕ). SummedAs state net region.dest arc n (most_fed net region arc) (first_position before region arc) (summers_at broad e)) (sym still)
        (first-found state net region.dest laws arc (most_fed net region arc) (first_position before region arc) (get_or broad (e - 1) None) (broad-open net region laws is times needs at-dest arc wide) first);
    narrow = λ thin.
        let first : states_of state (get_or broad (e - 1) None) ≡ None = sym (sums-get state broad e) ∙ are e arc at ∙ (rw thin refl) in
        none-found state (get_or broad (e - 1) None) first;
  }

  few-fed : (before now : TablesView) (arc : Arc) (node to : ℕ) → known_end (table_at now node) < to → arc.tail ≡ node → fed_so_far net region before now arc ≤ values_below net region.dest arc to
  few-fed before now arc node to some tail =
      let end : known_end (table_at now arc.tail) < to = subst (λ (i : ℕ). known_end (table_at now i) < to) (sym tail) some in
      ⊎_elim
      (λ (grown : known_end (table_at before arc.tail) < known_end (table_at now arc.tail)). rw (lt-ltb (known_end (table_at before arc.tail)) (known_end (table_at now arc.tail)) grown) (omega (arith, end)))
      (λ (still : known_end (table_at now arc.tail) ≤ known_end (table_at before arc.tail)). rw (le-ltb (known_end (table_at before arc.tail)) (known_end (table_at now arc.tail)) still) (omega arith))
      (cases_lt (known_end (table_at before arc.tail)) (known_end (table_at now arc.tail)))

  -- before an extent of a node the summers of its arcs can be fed
  pub summed-can : (places : ℕ) (before now : TablesView) (broad : SummersList Z) (node to : ℕ) → HasPlaces net region places → AllSummed state net region before now broad → known_end (table_at now node) < to → to ≤ get_or region.need (node - 1) 0
      → AllCanFeed state net region.dest node to places broad
  summed-can places before now broad node to fits all some less e arc two at tail found =
      ⊎_elim
      (λ (wide : is_broad net region arc ≡ true).
      let summed = (all e arc at).broad wide in
      let same : summed.two ≡ two = (let both : Some summed.two ≡ Some two = sym summed.are ∙ found in cc) in
      let needed : to ≤ get_or region.need (arc.tail - 1) 0 = subst (λ (i : ℕ). to ≤ get_or region.need (i - 1) 0) (sym tail) less in
      record {
        count = fed_so_far net region before now arc;
        total = most_fed net region arc;
        start = first_position before region arc;
        is = subst (λ (s : Summers Z). IsSummed state net region.dest arc (fed_so_far net region before now arc) (most_fed net region arc) (first_position before region arc) s) same summed.is;
        less = few-fed before now arc node to some tail;
        room = room-fits net region laws is times needs at-dest e arc to at wide needed;
        work = fits e arc at wide;
      })
      (λ (thin : is_broad net region arc ≡ false). absurd (none-some two (sym ((all e arc at).narrow thin) ∙ found)))
      (cases_Bool (is_broad net region arc))

  -- what feeding them says
  pub record WereFed (node to : ℕ) (old new : SummersList Z) : Type 0 where
    pub fed : (e : ℕ) (arc : Arc) (count total start : ℕ) → arc_at net e ≡ Some arc → arc.tail ≡ node → SummedAs state net region.dest arc count total start (summers_at old e) → count ≤ values_below net region.dest arc to
        → SummedAs state net region.dest arc (values_below net region.dest arc to) total start (summers_at new e)
    pub others : (e : ℕ) (arc : Arc) → arc_at net e ≡ Some arc → arc.tail ≢ node → summers_at new e ≡ summers_at old e
    pub none : (e : ℕ) → 1 ≤ e → summers_at old e ≡ None → summers_at new e ≡ None

  fed-here : (before now : TablesView) (old new : SummersList Z) (node to : ℕ) → AllSummed state net region before now old → known_end (table_at now node) < to → to ≤ get_or region.need (node - 1) 0 → WereFed node to old new
      → (e : ℕ) (arc : Arc) → arc_at net e ≡ Some arc → arc.tail ≡ node → is_broad net region arc ≡ true → SummedAs state net region.dest arc (values_below net region.dest arc to) (most_fed net region arc) (first_position before region arc) (summers_at new e)
  fed-here before now old new node to all some less were e arc at tail wide =
      let summed = (all e arc at).broad wide in
      were.fed e arc (fed_so_far net region before now arc) (most_fed net region arc) (first_position before region arc) at tail summed (few-fed before now arc node to some tail)

  pub fed-all-arcs : (before now : TablesView) (old new : SummersList Z) (node to : ℕ) → AllSummed state net region before now old → known_end (table_at now node) < to → to ≤ get_or region.need (node - 1) 0 → WereFed node to old new
      → known_end (table_at before node) ≤ known_end (table_at now node) → AllFed state net region.dest node (known_end (table_at now node)) to new
  fed-all-arcs before now old new node to all some less were rise e arc two at tail found =
      ⊎_elim
      (λ (wide : is_broad net region arc ≡ true).
      let summed = fed-here before now old new node to all some less were e arc at tail wide in
      let same : summed.two ≡ two = (let both : Some summed.two ≡ Some two = sym summed.are ∙ found in cc) in
      let head : base_by region.least arc.head ≡ least_to net region.dest arc.head = times arc.head (laws.arc e arc at).head in
      let late : known_end (table_at before arc.tail) ≤ known_end (table_at now node) = (let was : known_end (table_at before arc.tail) ≡ known_end (table_at before node) = ap (λ (i : ℕ). known_end (table_at before i)) tail in omega (arith, was, rise)) in
      let is' : IsSummed state net region.dest arc (values_below net region.dest arc to) (most_fed net region arc) (first_position before region arc) two = subst (λ (s : Summers Z). IsSummed state net region.dest arc (values_below net region.dest arc to) (most_fed net region arc) (first_position before region arc) s) same summed.is in
      record {
        open_arc = is'.open_arc;
        lower = is'.lower;
        upper = is'.upper;
        lower_reach = (omega (arith, is'.lower_start, head, late), omega (arith, is'.lower_count));
        upper_reach = (omega (arith, is'.upper_start, head, late), omega (arith, is'.upper_count));
      })
      (λ (thin : is_broad net region arc ≡ false). absurd (none-some two (sym (were.none e (number-low net e arc at) ((all e arc at).narrow thin)) ∙ found)))
      (cases_Bool (is_broad net region arc))

  -- after the extent
  pub summed-next : (before now next : TablesView) (old new : SummersList Z) (node to : ℕ) → AllSummed state net region before now old → known_end (table_at now node) < to → to ≤ get_or region.need (node - 1) 0 → WereFed node to old new
      → IsLonger node (to - known_end (table_at now node)) now next → known_end (table_at before node) ≤ known_end (table_at now node) → AllSummed state net region before next new
  summed-next before now next old new node to all some less were longer rise e arc at = record {
    broad = λ wide.
        ⊎_elim
        (λ (tail : arc.tail ≡ node).
        let end : known_end (table_at next node) ≡ to = omega (arith, longer.end, some) in
        let end' : known_end (table_at next arc.tail) ≡ to = ap (λ (i : ℕ). known_end (table_at next i)) tail ∙ end in
        let more : known_end (table_at before arc.tail) < known_end (table_at next arc.tail) = (let was : known_end (table_at before arc.tail) ≡ known_end (table_at before node) = ap (λ (i : ℕ). known_end (table_at before i)) tail in omega (arith, was, end', rise, some)) in
        let count : fed_so_far net region before next arc ≡ values_below net region.dest arc to =
        (rw (lt-ltb (known_end (table_at before arc.tail)) (known_end (table_at next arc.tail)) more) (ap (values_below net region.dest arc) end')) in
        subst (λ (n : ℕ). SummedAs state net region.dest arc n (most_fed net region arc) (first_position before region arc) (summers_at new e)) (sym count) (fed-here before now old new node to all some less were e arc at tail wide))
        (λ (off : arc.tail ≡ node → ⊥).
        let kept : table_at next arc.tail ≡ table_at now arc.tail = longer.only.others arc.tail (laws.arc e arc at).tail.0 off in
        let count : fed_so_far net region before next arc ≡ fed_so_far net region before now arc =
        ap (λ (s : NodeTable). if nat_lt (known_end (table_at before arc.tail)) (known_end s) then values_below net region.dest arc (known_end s) else 0) kept in
        subst (λ (n : ℕ). SummedAs state net region.dest arc n (most_fed net region arc) (first_position before region arc) (summers_at new e)) (sym count)
        (subst (λ (o : Option (Summers Z)). SummedAs state net region.dest arc (fed_so_far net region before now arc) (most_fed net region arc) (first_position before region arc) o) (sym (were.others e arc at off)) ((all e arc at).broad wide)))
        (cases_eq arc.tail node);
    narrow = λ thin. were.none e (number-low net e arc at) ((all e arc at).narrow thin);
  }

  -- ---- at the end
  fed-end : (before next : TablesView) (arc : Arc) → IsGrownAt (get_or region.need (arc.tail - 1) 0) (table_at before arc.tail) (table_at next arc.tail) → get_or region.need (arc.tail - 1) 0 ≤ known_end (table_at next arc.tail)
      → fed_so_far net region before next arc ≡ values_fed net region before arc
  fed-end before next arc grown met =
      let needed : ℕ = get_or region.need (arc.tail - 1) 0 in
      let was : ℕ = known_end (table_at before arc.tail) in
      let end : ℕ = known_end (table_at next arc.tail) in
      ⊎_elim
      (λ (missed : was < needed).
      let same : end ≡ needed =
      ⊎_elim
      (λ (still : (table_at next arc.tail).front ≡ (table_at before arc.tail).front). absurd (omega (arith, grown.base, still, missed, met)))
      (λ (more : (known_end (table_at before arc.tail) < (table_at next arc.tail).front) × ((table_at next arc.tail).front ≤ get_or region.need (arc.tail - 1) 0)). omega (arith, grown.base, more.0, more.1, missed, met))
      grown.front in
      let more : was < end = omega arith in
      rw (lt-ltb was end more, lt-ltb was needed missed) (ap (values_below net region.dest arc) same))
      (λ (enough : needed ≤ was).
      let still : end ≤ was =
      ⊎_elim
      (λ (same : (table_at next arc.tail).front ≡ (table_at before arc.tail).front). omega (arith, grown.base, same))
      (λ (more : (known_end (table_at before arc.tail) < (table_at next arc.tail).front) × ((table_at next arc.tail).front ≤ get_or region.need (arc.tail - 1) 0)). absurd (omega (arith, more.0, more.1)))
      grown.front in
      rw (le-ltb was end still, le-ltb was needed enough) refl)
      (cases_lt was needed)

  pub spent-arc : (before next : TablesView) (broad : SummersList Z) → AllSummed state net region before next broad → ((i : ℕ) → IsNode net i → IsGrownAt (get_or region.need (i - 1) 0) (table_at before i) (table_at next i)) → ((i : ℕ) → IsNode net i → get_or region.need (i - 1) 0 ≤ known_end (table_at next i))
      → (e : ℕ) (arc : Arc) → arc_at net e ≡ Some arc → is_broad net region arc ≡ true → HasSpent net region before arc (get_or (map (states_of state) broad) (e - 1) None)
  spent-arc before next broad all grown met e arc at wide =
      let tail : IsNode net arc.tail = (laws.arc e arc at).tail in
      let count : fed_so_far net region before next arc ≡ values_fed net region before arc = fed-end before next arc (grown arc.tail tail) (met arc.tail tail) in
      let summed = subst (λ (n : ℕ). SummedAs state net region.dest arc n (most_fed net region arc) (first_position before region arc) (summers_at broad e)) count ((all e arc at).broad wide) in
      record {
        two = record { lower = state summed.two.lower; upper = state summed.two.upper };
        are = sums-get state broad e ∙ ap (states_of state) summed.are;
        lower = record {
          kernel = summed.is.lower.kernel ∙ ap (λ (n : ℕ). kernel_of n arc.time) summed.is.lower_total;
          count_is = summed.is.lower_count;
          values = λ a less. summed.is.lower.values a (omega (arith, less, summed.is.lower_count));
        };
        upper = record {
          kernel = summed.is.upper.kernel ∙ ap (λ (n : ℕ). kernel_of n arc.time) summed.is.upper_total;
          count_is = summed.is.upper_count;
          values = λ a less. summed.is.upper.values a (omega (arith, less, summed.is.upper_count));
        };
      }

  pub spent-none : (before next : TablesView) (broad : SummersList Z) → AllSummed state net region before next broad → (e : ℕ) (arc : Arc) → arc_at net e ≡ Some arc → is_broad net region arc ≡ false → get_or (map (states_of state) broad) (e - 1) None ≡ None
  spent-none before next broad all e arc at thin = sums-get state broad e ∙ ap (states_of state) ((all e arc at).narrow thin)

-- a node's known end never falls
pub grown-rise : (needed : ℕ) (old new : NodeTable) → IsGrownAt needed old new → known_end old ≤ known_end new
grown-rise needed old new is =
    ⊎_elim (λ (same : new.front ≡ old.front). omega (arith, is.base, same)) (λ (more : (known_end old < new.front) × (new.front ≤ needed)). omega (arith, more.0)) is.front
