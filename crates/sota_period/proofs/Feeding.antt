-- Values that are fed to a summer.
use Rattle.std.proofs.Common.{ℕ, false, true, zero, suc, ◌≡◌, ◌+◌, ◌-◌, ◌<◌, ◌≤◌, max, min, nat_lt, Option, None, Some, List, [], ◌∷◌, ◌++◌, length, map, take, get_or, slice_index, refl, sym, ◌∙◌, ap, subst, arith, ⊎_elim}
use Rattle.std.proofs.lemmas.Bool.{cases_lt, cases_eq, cases_Bool, ltb-true, and_parts}
use Rattle.std.proofs.lemmas.Option.{none-some, slice_get_within, get_or_from_slice_get}
use Rattle.std.specs.Prelude.{Box}
use Rattle.std.specs.List.{All}
use Rattle.std.specs.declared.alloc.Global.{Global}
use Rattle.std.proofs.Math.ListN.{set}
use Rattle.std.proofs.Math.ListN as maps
use Rattle.std.proofs.lemmas.List.{get_or-set_same, get_or-set_other, get_or_default, get_or_past, get_or-map, length-map, map-append, map_more}
use Rattle.std.proofs.lemmas.List.FromFn.{length-map-range_with_len}
use Rattle.sota_bank.specs.Rows.{Row}
use Rattle.sota_online.specs.Summer.{SummerState, kernel_of}
use Rattle.sota_fill.specs.Fed.{IsFed, IsSameSummer}
use Rattle.sota_network.specs.Network.{Net, arc_at}
use Rattle.sota_network.specs.declared.network.Arc.{Arc}
use Rattle.sota_hist.specs.Time.{is_closed, least_tick, mass_at, span, within}
use Rattle.sota_network.specs.Region.{NARROW}
use Rattle.sota_period.specs.Needs.{node_need}
use Rattle.sota_period.specs.Rows.{timed_row, row_value, row_room, AreLonger}
use Rattle.sota_period.specs.Broad.{IsFedArc, AllFedRows, IsReadySummer, AllReady, AreSame, AreSummers, IsWorkFor, SummerList, summer_state, state_at, unfed_from, first_summer_state, is_summed, kernel_length}

-- a summer was fed on, the given values, until so many are fed
pub record IsFedOn (value : ℕ → ℕ) (to : ℕ) (old new : SummerState) : Type 0 where
  pub fed : (time : List (ℕ × ℕ)) (f : ℕ → ℕ) → IsFed old time 0 f → ((a : ℕ) → a < to → value a ≡ f a) → IsFed new time 0 f
  pub count : length new.values ≡ max (length old.values) to
  pub same : IsSameSummer old new

-- ---- the summer of an arc, by its number
pub state-read : {Z : Type 0} (state : Z → SummerState) (broad : SummerList Z) (e i n : ℕ) (d : Option (Box Z Global)) (summer : Box Z Global) → i ≡ e → (1 ≤ e) × (e ≤ n) → length broad ≡ n → get_or broad (i - 1) d ≡ Some summer
    → state_at state broad e ≡ Some (state summer.value)
state-read {Z} state broad e i n d summer same number long is =
    let at : get_or broad (e - 1) None ≡ Some summer = ap (λ (n : ℕ). get_or broad (n - 1) None) (sym same) ∙ get_or_default broad (i - 1) None d (omega (arith, number.0, number.1)) ∙ is in
    ap (summer_state state) at

pub state-set : {Z : Type 0} (state : Z → SummerState) (broad : SummerList Z) (e i n : ℕ) (summer : Box Z Global) → i ≡ e → (1 ≤ e) × (e ≤ n) → length broad ≡ n
    → state_at state (set broad (i - 1) (Some summer)) e ≡ Some (state summer.value)
state-set {Z} state broad e i n summer same number long =
    ap (λ (k : ℕ). state_at state (set broad (k - 1) (Some summer)) e) same ∙ ap (summer_state state) (get_or-set_same broad (e - 1) (Some summer) None (omega (arith, number.0, number.1)))

-- ---- the same summers
same-summer : (state : SummerState) → IsSameSummer state state
same-summer state = record { kernel = refl; start = refl; total = refl }

pub same-none : (at : ℕ → Option SummerState) → AreSame at at
same-none at e state low is = (state, is, same-summer state)

pub same-ready : (net : Net) (from places : ℕ) (before after : ℕ → Option SummerState) → AreSame before after → AllReady net from places before → AllReady net from places after
same-ready net from places before after same ready zero arc state number is = absurd (cc)
same-ready net from places before after same ready (suc k) arc state number is =
    let was = same (suc k) state (omega arith) is in
    let old : IsReadySummer arc from places was.0 = ready (suc k) arc was.0 number was.1 in
    record {
      start = omega (arith, was.2.start, old.start);
      work = omega (arith, ap (λ (xs : List ℕ). length xs) was.2.kernel, old.work);
    }

-- summers that were fed on
pub fed-summers : {Z : Type 0} (state : Z → SummerState) (rows : List (Row ℕ)) (net : Net) (places work : ℕ) (old new : SummerList Z) → length new ≡ length old → AllFedRows rows net (state_at state new)
    → AreSame (state_at state old) (state_at state new) → work ≡ places → (t : ℕ) → AreSummers state rows net t places old → AreSummers state rows net t work new
fed-summers {Z} state rows net places work old new long fed same lent t are =
    subst (λ (n : ℕ). AreSummers state rows net t n new) (sym lent)
    (record {
      count = long ∙ are.count;
      fed = fed;
      ready = same-ready net t places (state_at state old) (state_at state new) same are.ready;
    })

-- at later budgets
pub later-summers : {Z : Type 0} {state : Z → SummerState} {rows : List (Row ℕ)} {net : Net} {from places : ℕ} {broad : SummerList Z} (more : ℕ) → from ≤ more → AreSummers state rows net from places broad
    → AreSummers state rows net more places broad
later-summers {Z} {state} {rows} {net} {from} {places} {broad} more late are = record {
  count = are.count;
  fed = are.fed;
  ready = λ e arc s number is.
      let old : IsReadySummer arc from places s = are.ready e arc s number is in
      record { start = omega (arith, late, old.start); work = old.work };
}

-- ---- what the summers hold
fed-on : (rows : List (Row ℕ)) (arc : Arc) (known : ℕ) (old new : SummerState) → known ≡ length (timed_row rows arc.head) → IsFedArc rows arc old
    → IsFedOn (λ a. slice_index (timed_row rows arc.head) a) known old new → IsFedArc rows arc new
fed-on rows arc known old new at was on = record {
  open_arc = was.open_arc;
  fed = on.fed arc.time (row_value rows arc.head) was.fed (λ a less. refl);
  count = omega (arith, on.count, was.count, at);
  total = on.same.total ∙ was.total;
}

-- the summer of an arc, where it has one, was fed its head's row, and the others stay
pub record IsFedThere (rows : List (Row ℕ)) (net : Net) (number : ℕ) (before after : ℕ → Option SummerState) : Type 0 where
  pub fed : AllFedRows rows net after
  pub same : AreSame before after
  pub reach : (arc : Arc) (s : SummerState) → arc_at net number ≡ Some arc → after number ≡ Some s → length (timed_row rows arc.head) ≤ length s.values

module _ {Z : Type 0} (state : Z → SummerState) (rows : List (Row ℕ)) (net : Net) (broad : SummerList Z) (number i : ℕ) (summer new : Box Z Global) (arc : Arc) (known : ℕ)
    (same : i ≡ number) (inside : (1 ≤ number) × (number ≤ length net.arcs)) (long : length broad ≡ length net.arcs) (at : arc_at net number ≡ Some arc)
    (found : state_at state broad number ≡ Some (state summer.value)) (whole : known ≡ length (timed_row rows arc.head))
    (on : IsFedOn (λ a. slice_index (timed_row rows arc.head) a) known (state summer.value) (state new.value)) where
  own : state_at state (set broad (i - 1) (Some new)) number ≡ Some (state new.value)
  own = state-set state broad number i (length net.arcs) new same inside long

  one-fed : AllFedRows rows net (state_at state broad) → (a : Arc) (s : SummerState) → arc_at net number ≡ Some a → state_at state (set broad (i - 1) (Some new)) number ≡ Some s → IsFedArc rows a s
  one-fed was a s number-is is =
      let both : Some (state new.value) ≡ Some s = sym own ∙ is in
      let one : state new.value ≡ s = cc in
      let arcs : Some arc ≡ Some a = sym at ∙ number-is in
      let two : arc ≡ a = cc in
      subst (λ (b : Arc). IsFedArc rows b s) two
      (subst (λ (t : SummerState). IsFedArc rows arc t) one (fed-on rows arc known (state summer.value) (state new.value) whole (was number arc (state summer.value) at found) on))

  set-fed : AllFedRows rows net (state_at state broad) → AllFedRows rows net (state_at state (set broad (i - 1) (Some new)))
  set-fed was zero a s number-is is = absurd (cc)
  set-fed was (suc k) a s number-is is =
      ⊎_elim
      (λ (here : suc k ≡ number).
      one-fed was a s (subst (λ (e : ℕ). arc_at net e ≡ Some a) here number-is) (subst (λ (e : ℕ). state_at state (set broad (i - 1) (Some new)) e ≡ Some s) here is))
      (λ (off : suc k ≡ number → ⊥).
      let apart : suc k - 1 ≡ i - 1 → ⊥ = λ eq. off (omega (arith, eq, same, inside.0)) in
      was (suc k) a s number-is (ap (summer_state state) (sym (get_or-set_other broad (i - 1) (suc k - 1) (Some new) None apart)) ∙ is))
      (cases_eq (suc k) number)

  set-reach : (a : Arc) (s : SummerState) → arc_at net number ≡ Some a → state_at state (set broad (i - 1) (Some new)) number ≡ Some s → length (timed_row rows a.head) ≤ length s.values
  set-reach a s number-is is =
      let both : Some (state new.value) ≡ Some s = sym own ∙ is in
      let one : length (state new.value).values ≡ length s.values = (let eq : state new.value ≡ s = cc in ap (λ (t : SummerState). length t.values) eq) in
      let arcs : Some arc ≡ Some a = sym at ∙ number-is in
      let two : length (timed_row rows arc.head) ≡ length (timed_row rows a.head) = (let eq : arc ≡ a = cc in ap (λ (b : Arc). length (timed_row rows b.head)) eq) in
      omega (arith, one, two, on.count, whole)

  set-same : AreSame (state_at state broad) (state_at state (set broad (i - 1) (Some new)))
  set-same e s low is =
      ⊎_elim
      (λ (here : e ≡ number).
      let both : Some (state new.value) ≡ Some s = sym own ∙ ap (λ (k : ℕ). state_at state (set broad (i - 1) (Some new)) k) (sym here) ∙ is in
      let one : state new.value ≡ s = cc in
      (state summer.value, ap (state_at state broad) here ∙ found, subst (λ (t : SummerState). IsSameSummer (state summer.value) t) one on.same))
      (λ (off : e ≡ number → ⊥).
      let apart : e - 1 ≡ i - 1 → ⊥ = λ eq. off (omega (arith, eq, same, inside.0, low)) in
      (s, ap (summer_state state) (sym (get_or-set_other broad (i - 1) (e - 1) (Some new) None apart)) ∙ is, same-summer s))
      (cases_eq e number)

  pub fed-there : AllFedRows rows net (state_at state broad) → IsFedThere rows net number (state_at state broad) (state_at state (set broad (i - 1) (Some new)))
  fed-there was = record { fed = set-fed was; same = set-same; reach = set-reach }

-- rows that go on
grown-fed : (rows new : List (Row ℕ)) (net : Net) (at : ℕ → Option SummerState) → AreLonger rows new → AllFedRows rows net at → AllFedRows new net at
grown-fed rows new net at longer all e arc state number is =
    let was : IsFedArc rows arc state = all e arc state number is in
    record {
      open_arc = was.open_arc;
      fed = record {
        kernel = was.fed.kernel;
        values = λ a less. was.fed.values a less ∙ sym (longer.entry arc.head (0 + a) (omega (arith, less, was.count)));
        below = λ u h. absurd (omega arith);
      };
      count = omega (arith, was.count, longer.long arc.head);
      total = was.total ∙ sym (longer.room arc.head);
    }

pub grown-summers : {Z : Type 0} {state : Z → SummerState} {rows : List (Row ℕ)} {net : Net} {from places : ℕ} {broad : SummerList Z} (new : List (Row ℕ)) → AreLonger rows new → AreSummers state rows net from places broad
    → AreSummers state new net from places broad
grown-summers {Z} {state} {rows} {net} {from} {places} {broad} new longer are = record { count = are.count; fed = grown-fed rows new net (state_at state broad) longer are.fed; ready = are.ready }

-- ---- summers that were fed nothing yet
broad-open : (late : ℕ) (time : List (ℕ × ℕ)) → NARROW < length (within late time) → is_closed time ≡ false
broad-open late [] many = absurd (omega arith)
broad-open late (p ∷ ps) many = refl

pub summed-open : (needs : List ℕ) (from : ℕ) (arc : Arc) → is_summed needs from arc ≡ true → is_closed arc.time ≡ false
summed-open needs from arc is =
    broad-open (node_need needs arc.tail - 1) arc.time (ltb-true NARROW (length (within (node_need needs arc.tail - 1) arc.time)) (and_parts (nat_lt from (node_need needs arc.tail)) (nat_lt NARROW (length (within (node_need needs arc.tail - 1) arc.time))) is).1)

first-fed : (rows : List (Row ℕ)) (needs : List ℕ) (from : ℕ) (arc : Arc) (state : SummerState) → row_room rows arc.head ≡ node_need needs arc.head → first_summer_state needs from arc ≡ Some state → IsFedArc rows arc state
first-fed rows needs from arc state room is =
    ⊎_elim
    (λ (yes : is_summed needs from arc ≡ true).
    let both : Some (unfed_from (node_need needs arc.head) from arc) ≡ Some state = rw yes at is in
    let same : unfed_from (node_need needs arc.head) from arc ≡ state = cc in
    subst (λ (s : SummerState). IsFedArc rows arc s) same
    (record {
      open_arc = summed-open needs from arc yes;
      fed = record {
        kernel = ap (λ (n : ℕ). kernel_of n arc.time) (let y : node_need needs arc.head ≡ 0 + node_need needs arc.head = omega arith in y);
        values = λ a less. absurd (omega arith);
        below = λ u less. absurd (omega arith);
      };
      count = omega arith;
      total = (let y : 0 + node_need needs arc.head ≡ row_room rows arc.head = omega (arith, room) in y);
    }))
    (λ (no : is_summed needs from arc ≡ false).
    absurd (let gone : None ≡ Some state = rw no at is in none-some state gone))
    (cases_Bool (is_summed needs from arc))

first-ready : (needs : List ℕ) (from places : ℕ) (arc : Arc) (state : SummerState) → IsWorkFor places (first_summer_state needs from arc) → first_summer_state needs from arc ≡ Some state → IsReadySummer arc from places state
first-ready needs from places arc state room is =
    ⊎_elim
    (λ (yes : is_summed needs from arc ≡ true).
    let both : Some (unfed_from (node_need needs arc.head) from arc) ≡ Some state = rw yes at is in
    let same : unfed_from (node_need needs arc.head) from arc ≡ state = cc in
    record {
      start = subst (λ (s : SummerState). s.start ≤ from + 1 - least_tick arc.time) same (omega arith);
      work = subst (IsWorkFor places) is room;
    })
    (λ (no : is_summed needs from arc ≡ false).
    absurd (let gone : None ≡ Some state = rw no at is in none-some state gone))
    (cases_Bool (is_summed needs from arc))

module _ {Z : Type 0} (state : Z → SummerState) (items : SummerList Z) (net : Net) (needs : List ℕ) (from : ℕ)
    (same : map (summer_state state) items ≡ map (first_summer_state needs from) net.arcs) where
  first-at : (k : ℕ) (arc : Arc) (s : SummerState) → arc_at net (suc k) ≡ Some arc → state_at state items (suc k) ≡ Some s → first_summer_state needs from arc ≡ Some s
  first-at k arc s number is =
      let inside : k < length net.arcs = slice_get_within net.arcs k arc number in
      let there : get_or net.arcs k arc ≡ arc = get_or_from_slice_get net.arcs k arc arc number in
      let place : k ≡ suc k - 1 = omega arith in
      let made : get_or (map (first_summer_state needs from) net.arcs) k None ≡ first_summer_state needs from arc = get_or-map (first_summer_state needs from) net.arcs k arc None inside ∙ ap (first_summer_state needs from) there in
      let found : get_or (map (summer_state state) items) k None ≡ state_at state items (suc k) = maps.get_or-map (summer_state state) items k None ∙ ap (λ (n : ℕ). summer_state state (get_or items n None)) place in
      sym made ∙ ap (λ (xs : List (Option SummerState)). get_or xs k None) (sym same) ∙ found ∙ is

  start-fed : (rows : List (Row ℕ)) → ((e : ℕ) (arc : Arc) → arc_at net e ≡ Some arc → row_room rows arc.head ≡ node_need needs arc.head) → AllFedRows rows net (state_at state items)
  start-fed rows room zero arc s number is = absurd (cc)
  start-fed rows room (suc k) arc s number is = first-fed rows needs from arc s (room (suc k) arc number) (first-at k arc s number is)

  start-ready : (places : ℕ) → All (λ arc. IsWorkFor places (first_summer_state needs from arc)) net.arcs → AllReady net from places (state_at state items)
  start-ready places room zero arc s number is = absurd (cc)
  start-ready places room (suc k) arc s number is =
      let inside : k < length net.arcs = slice_get_within net.arcs k arc number in
      let there : get_or net.arcs k arc ≡ arc = get_or_from_slice_get net.arcs k arc arc number in
      first-ready needs from places arc s (subst (λ (a : Arc). IsWorkFor places (first_summer_state needs from a)) there (room k arc inside)) (first-at k arc s number is)

  pub start-summers : (places : ℕ) → All (λ arc. IsWorkFor places (first_summer_state needs from arc)) net.arcs → (rows : List (Row ℕ)) → ((e : ℕ) (arc : Arc) → arc_at net e ≡ Some arc → row_room rows arc.head ≡ node_need needs arc.head)
      → AreSummers state rows net from places items
  start-summers places room rows rooms = record {
    count = sym (length-map items (summer_state state)) ∙ ap length same ∙ length-map net.arcs (first_summer_state needs from);
    fed = start-fed rows rooms;
    ready = start-ready places room;
  }

-- a kernel has no more places than there are values
kernel-few : (width : ℕ) (time : List (ℕ × ℕ)) → length (kernel_of width time) ≤ width
kernel-few width time = omega (arith, length-map-range_with_len (λ b. mass_at (least_tick time + b) time) 0 (min (span time) width))

need-few : (needs : List ℕ) (i most : ℕ) → All (λ n. n ≤ most) needs → node_need needs i ≤ most
need-few needs i most few =
    ⊎_elim
    (λ (inside : i - 1 < length needs). few (i - 1) 0 inside)
    (λ (past : length needs ≤ i - 1). omega (arith, get_or_past needs (i - 1) 0 past))
    (cases_lt (i - 1) (length needs))

pub places-few : (needs : List ℕ) (from most : ℕ) (arc : Arc) → All (λ n. n ≤ most) needs → kernel_length (first_summer_state needs from arc) ≤ most
places-few needs from most arc few =
    ⊎_elim
    (λ (yes : is_summed needs from arc ≡ true). rw yes (omega (arith, kernel-few (node_need needs arc.head) arc.time, need-few needs arc.head most few)))
    (λ (no : is_summed needs from arc ≡ false). rw no (omega arith))
    (cases_Bool (is_summed needs from arc))

-- one arc more
pub made-more : {X : Type 0} (state : X → Option SummerState) (sums : Arc → Option SummerState) (items new : List X) (made : X) (arcs : List Arc) (k : ℕ) (arc : Arc) → new ≡ items ++ made ∷ [] → map state items ≡ map sums (take k arcs) → k < length arcs → arc ≡ get_or arcs k arc → state made ≡ sums arc
    → map state new ≡ map sums (take (k + 1) arcs)
made-more state sums items new made arcs k arc at before inside read is =
    ap (map state) at ∙ map-append state items (made ∷ [])
    ∙ ap (λ (xs : List (Option SummerState)). xs ++ state made ∷ []) before
    ∙ ap (λ (s : Option SummerState). map sums (take k arcs) ++ s ∷ []) (is ∙ ap sums read)
    ∙ sym (map_more sums arcs k arc inside)
