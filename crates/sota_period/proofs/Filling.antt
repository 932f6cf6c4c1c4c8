-- The values at budgets at which none reads another.
use Rattle.std.proofs.Common.{ℕ, zero, suc, ◌≡◌, ◌≢◌, ◌+◌, ◌-◌, ◌*◌, ◌<◌, ◌≤◌, false, min, List, [], ◌++◌, length, get_or, slice_index, replicate, ◌^◌, Some, refl, sym, ◌∙◌, ap, subst, arith, ⊎_elim}
use Rattle.std.specs.List.{All, sum}
use Rattle.std.proofs.lemmas.Bool.{cases_eq, cases_lt, ne_eqb}
use Rattle.std.proofs.lemmas.Option.{slice_get_within, get_or_from_slice_get, slice_get-get_or}
use Rattle.std.proofs.lemmas.List.{get_or_default, get_or_append_left, get_or-append_right, length-append, length-map, length-replicate, get_or-replicate, get_or-set_same, get_or-set_other, length-set}
use Rattle.std.proofs.lemmas.List.Sums.{sum_by-le}
use Rattle.std.proofs.Math.ListN as maps
use Rattle.sota_units.specs.Rounding.{ONE}
use Rattle.sota_bank.specs.Rows.{Row, list_at, cap_at, with_list, empty_rows}
use Rattle.sota_bank.specs.Rows as bank
use Rattle.sota_hist.specs.Time.{is_closed, least_tick}
use Rattle.sota_network.specs.Network.{Net, IsNet, IsArc, arc_at}
use Rattle.sota_network.specs.Grid.{plain_sum, best_sum, choice_of}
use Rattle.sota_network.specs.declared.network.Arc.{Arc}
use Rattle.sota_sums.specs.Bounds.{rounded_in}
use Rattle.sota_sums.specs.declared.bound.Bound.{Bound}
use Rattle.sota_sums.specs.declared.bound.Bound.TheVariants.{Lower, Upper}
use Rattle.sota_period.specs.declared.ask.Ask.{Ask}
use Rattle.sota_period.specs.Laws.{NetworkLaws}
use Rattle.sota_period.specs.Needs.{Serves, node_need}
use Rattle.sota_period.specs.Periods.{IsTimedNet}
use Rattle.sota_period.specs.Grid.{timed_value, tlo, tchoice}
use Rattle.sota_period.specs.Rows.{timed_row, row_value, row_room, round_of, asked_net, asked_value, asked_nodes, asked_need, IsAsk, AreRows, AreLonger, TakesAtLeast}
use Rattle.sota_period.specs.Broad.{AllRead}
use Rattle.sota_period.proofs.Periods.{is-timed, net-has}
use Rattle.sota_period.proofs.Best.{Each, best-agree, choice-agree}
use Rattle.sota_period.proofs.Grid.{value-at_dest, value-elsewhere}
use Rattle.sota_period.proofs.Gap.{best-within, near}

-- ---- sums that read nothing of a block
takes-at : (ticks : ℕ) (net : Net) (e : ℕ) (a : Arc) → TakesAtLeast ticks net.arcs → arc_at net e ≡ Some a → is_closed a.time ≡ false → ticks ≤ least_tick a.time
takes-at ticks net zero a all is = absurd (cc)
takes-at ticks net (suc k) a all is =
    subst (λ (b : Arc). is_closed b.time ≡ false → ticks ≤ least_tick b.time) (get_or_from_slice_get net.arcs k a a is) (all k a (slice_get_within net.arcs k a is))

-- two functions agree at the heads of the arcs that leave node i, at what their least ticks leave
abbrev Agree : Net → ℕ → ℕ → (ℕ → ℕ → ℕ) → (ℕ → ℕ → ℕ) → Type 0
Agree net i t f g = (e : ℕ) (a : Arc) → arc_at net e ≡ Some a → a.tail ≡ i → is_closed a.time ≡ false → (u : ℕ) → u + least_tick a.time ≤ t → f a.head u ≡ g a.head u

sums-agree : NetworkLaws → (net : Net) → IsNet net → (f g : ℕ → ℕ → ℕ) (i t : ℕ) → Agree net i t f g → Each net i (λ a. plain_sum a f t ≡ plain_sum a g t)
sums-agree laws net valid f g i t agree e a is tail =
    let v : IsArc net a = laws.arc net e a valid is in
    laws.sums.agree (f a.head) (g a.head) t a.time
    (λ k d inside within.
    let opened : is_closed a.time ≡ false = laws.ticks.opened a.time k (get_or a.time k d) (slice_get-get_or a.time k d inside) in
    let least : least_tick a.time ≤ (get_or a.time k d).0 = laws.ticks.least a.time v.time k d inside in
    agree e a is tail opened (t - (get_or a.time k d).0) (omega arith))

-- ---- the values of an ask
module _ (laws : NetworkLaws) (ask : Ask) (is : IsAsk ask) where
  timed : IsTimedNet (asked_net ask) (asked_nodes ask)
  timed = is-timed ask.timed.now ask.deadline is.periods

  -- the network at a budget
  pub valid-held : (net : Net) (t : ℕ) → (asked_net ask).at t ≡ net → IsNet net
  valid-held net t here = subst (λ (n : Net). IsNet n) here (timed.valid t)

  pub nodes-held : (net : Net) (t : ℕ) → (asked_net ask).at t ≡ net → net.nodes ≡ asked_nodes ask
  nodes-held net t here = ap (λ (n : Net). n.nodes) (sym here) ∙ timed.nodes t

  serves-held : (net : Net) (t : ℕ) → (asked_net ask).at t ≡ net → Serves ask.needs.now ask.dest net
  serves-held net t here =
      subst (λ (n : Net). Serves ask.needs.now ask.dest n) here
      (net-has (λ n. Serves ask.needs.now ask.dest n) ask.timed.now (ask.deadline - t) is.periods.order.some is.periods.order.first is.needs.serves)

  whole-by : (bound : Bound) (i t : ℕ) → timed_value (round_of bound) (asked_net ask) ask.dest i t ≤ ONE
  whole-by Lower i t =
      let both = near laws (asked_net ask) (asked_nodes ask) timed ask.dest i t in
      omega (arith, both.0, both.2)
  whole-by Upper i t = (near laws (asked_net ask) (asked_nodes ask) timed ask.dest i t).2

  whole : (i t : ℕ) → asked_value ask i t ≤ ONE
  whole i t = whole-by ask.bound i t

  pub arrived : (t : ℕ) → asked_value ask ask.dest t ≡ ONE
  arrived t = value-at_dest laws (asked_net ask) (asked_nodes ask) timed (round_of ask.bound) ask.dest ask.dest t refl

  rounds : (bound : Bound) (scale sum : ℕ) → rounded_in bound scale sum ≡ round_of bound scale sum
  rounds Lower scale sum = refl
  rounds Upper scale sum = refl

  -- what the rows have of the heads
  module _ (net : Net) (from ticks : ℕ) (rows : List (Row ℕ)) (are : AreRows ask from rows) (takes : TakesAtLeast ticks net.arcs) (t : ℕ) (here : (asked_net ask).at t ≡ net)
      (node : ℕ) (off : node ≢ ask.dest) where
    pub reads : (to : ℕ) → to ≤ from + ticks → to ≤ asked_need ask node → AllRead rows to net node
    reads to soon needed e a at tail opened =
        let v : IsArc net a = laws.arc net e a (valid-held net t here) at in
        let away : a.tail ≢ ask.dest = λ eq. off (sym tail ∙ eq) in
        let served : asked_need ask a.tail ≤ asked_need ask a.head + least_tick a.time = serves-held net t here e a at opened away in
        let late : ticks ≤ least_tick a.time = takes-at ticks net e a takes at opened in
        let same : asked_need ask a.tail ≡ asked_need ask node = ap (asked_need ask) tail in
        let known : min from (asked_need ask a.head) ≤ length (timed_row rows a.head) = are.reach a.head v.head.0 (omega (arith, v.head.1, nodes-held net t here)) in
        omega (arith, served, late, same, known)

    -- the rows agree with the values
    agrees : (u : ℕ) → u < from + ticks → u < asked_need ask node → Agree net node u (row_value rows) (asked_value ask)
    agrees u soon needed e a at tail opened w le =
        let v : IsArc net a = laws.arc net e a (valid-held net t here) at in
        let read : u + 1 ≤ least_tick a.time + length (timed_row rows a.head) = reads (u + 1) (omega arith) (omega arith) e a at tail opened in
        are.entry a.head w v.head.0 (omega (arith, v.head.1, nodes-held net t here)) (omega (arith, read, le))

    pub bests-known : (u : ℕ) → u < from + ticks → u < asked_need ask node → best_sum net (row_value rows) node u ≡ best_sum net (asked_value ask) node u
    bests-known u soon needed =
        best-agree laws net (λ a. plain_sum a (row_value rows) u) (λ a. plain_sum a (asked_value ask) u) node
        (sums-agree laws net (valid-held net t here) (row_value rows) (asked_value ask) node u (agrees u soon needed))

    pub choice-known : (u : ℕ) → u < from + ticks → u < asked_need ask node → choice_of net.arcs (λ a. plain_sum a (row_value rows) u) node ≡ choice_of net.arcs (λ a. plain_sum a (asked_value ask) u) node
    choice-known u soon needed =
        choice-agree laws net (λ a. plain_sum a (row_value rows) u) (λ a. plain_sum a (asked_value ask) u) node
        (sums-agree laws net (valid-held net t here) (row_value rows) (asked_value ask) node u (agrees u soon needed))

    pub bests-small : (u : ℕ) → u < from + ticks → u < asked_need ask node → best_sum net (row_value rows) node u ≤ net.scale * ONE
    bests-small u soon needed =
        let most : best_sum net (asked_value ask) node u ≤ net.scale * ONE = best-within laws net (valid-held net t here) (asked_value ask) ONE node u (λ j w less. whole j w) in
        omega (arith, bests-known u soon needed, most)

    -- what they are rounded to is the value, where this is the network
    pub value-here : (u : ℕ) → u < from + ticks → u < asked_need ask node → (asked_net ask).at u ≡ net
        → rounded_in ask.bound net.scale (best_sum net (row_value rows) node u) ≡ asked_value ask node u
    value-here u soon needed held =
        rounds ask.bound net.scale _
        ∙ ap (λ (s : ℕ). round_of ask.bound net.scale s) (bests-known u soon needed)
        ∙ ap (λ (n : Net). round_of ask.bound n.scale (best_sum n (asked_value ask) node u)) (sym held)
        ∙ ap (λ (q : ℕ). round_of ask.bound q (best_sum ((asked_net ask).at u) (asked_value ask) node u)) (timed.scale u)
        ∙ sym (value-elsewhere laws (asked_net ask) (asked_nodes ask) timed (round_of ask.bound) ask.dest node u off)

-- ---- one row longer
abbrev empty-row : Row ℕ
empty-row = bank.row_of [] 0

module _ (rows : List (Row ℕ)) (node : ℕ) (low : 1 ≤ node) (within : node ≤ length rows) (more : List ℕ) where
  abbrev pub longer : List (Row ℕ)
  longer = with_list rows (node - 1) (timed_row rows node ++ more)

  row-own : get_or longer (node - 1) empty-row ≡ bank.row_of (timed_row rows node ++ more) (row_room rows node)
  row-own = get_or-set_same rows (node - 1) _ empty-row (omega arith)

  row-other : (i : ℕ) → (i - 1 ≡ node - 1 → ⊥) → get_or longer (i - 1) empty-row ≡ get_or rows (i - 1) empty-row
  row-other i off = get_or-set_other rows (node - 1) (i - 1) _ empty-row off

  list-own : (i : ℕ) → i - 1 ≡ node - 1 → timed_row longer i ≡ timed_row rows i ++ more
  list-own i same =
      ap (λ (n : ℕ). list_at longer n) same ∙ ap (λ (r : Row ℕ). r.items) row-own ∙ ap (λ (n : ℕ). list_at rows n ++ more) (sym same)

  list-other : (i : ℕ) → (i - 1 ≡ node - 1 → ⊥) → timed_row longer i ≡ timed_row rows i
  list-other i off = ap (λ (r : Row ℕ). r.items) (row-other i off)

  cap-same : (i : ℕ) → row_room longer i ≡ row_room rows i
  cap-same i =
      ⊎_elim
      (λ (same : i - 1 ≡ node - 1). ap (λ (n : ℕ). cap_at longer n) same ∙ ap (λ (r : Row ℕ). r.cap) row-own ∙ ap (λ (n : ℕ). cap_at rows n) (sym same))
      (λ (off : i - 1 ≡ node - 1 → ⊥). ap (λ (r : Row ℕ). r.cap) (row-other i off))
      (cases_eq (i - 1) (node - 1))

  pub are-longer : AreLonger rows longer
  are-longer = record {
    count = length-set rows (node - 1) _;
    room = cap-same;
    long = λ i.
        ⊎_elim
        (λ (same : i - 1 ≡ node - 1). omega (arith, ap length (list-own i same), length-append (timed_row rows i) more))
        (λ (off : i - 1 ≡ node - 1 → ⊥). omega (arith, ap length (list-other i off)))
        (cases_eq (i - 1) (node - 1));
    entry = λ i t less.
        ⊎_elim
        (λ (same : i - 1 ≡ node - 1). ap (λ (xs : List ℕ). slice_index xs t) (list-own i same) ∙ get_or_append_left (timed_row rows i) more 0 t less)
        (λ (off : i - 1 ≡ node - 1 → ⊥). ap (λ (xs : List ℕ). slice_index xs t) (list-other i off))
        (cases_eq (i - 1) (node - 1));
  }

  pub own-long : length (timed_row longer node) ≡ length (timed_row rows node) + length more
  own-long = ap length (list-own node refl) ∙ length-append (timed_row rows node) more

  -- the entries stay values where what is appended are values
  pub entries-longer : (value : ℕ → ℕ → ℕ) (n : ℕ) → ((i t : ℕ) → 1 ≤ i → i ≤ n → t < length (timed_row rows i) → row_value rows i t ≡ value i t) → node ≤ n
      → ((x : ℕ) → x < length more → slice_index more x ≡ value node (length (timed_row rows node) + x))
      → (i t : ℕ) → 1 ≤ i → i ≤ n → t < length (timed_row longer i) → row_value longer i t ≡ value i t
  entries-longer value n entry inside values i t first last less =
      ⊎_elim
      (λ (same : i - 1 ≡ node - 1).
      let one : i ≡ node = omega arith in
      let list : timed_row longer i ≡ timed_row rows node ++ more = list-own i same ∙ ap (λ (k : ℕ). timed_row rows k ++ more) one in
      ap (λ (xs : List ℕ). slice_index xs t) list
      ∙ ⊎_elim
      (λ (early : t < length (timed_row rows node)). get_or_append_left (timed_row rows node) more 0 t early ∙ entry node t low inside early ∙ ap (λ (k : ℕ). value k t) (sym one))
      (λ (late : length (timed_row rows node) ≤ t).
      let place : length (timed_row rows node) + (t - length (timed_row rows node)) ≡ t = omega arith in
      let within_more : t - length (timed_row rows node) < length more = omega (arith, less, ap length list, length-append (timed_row rows node) more) in
      get_or-append_right (timed_row rows node) more (length (timed_row rows node)) t 0 refl late
      ∙ values (t - length (timed_row rows node)) within_more
      ∙ ap (λ (u : ℕ). value node u) place
      ∙ ap (λ (k : ℕ). value k t) (sym one))
      (cases_lt t (length (timed_row rows node))))
      (λ (off : i - 1 ≡ node - 1 → ⊥).
      ap (λ (xs : List ℕ). slice_index xs t) (list-other i off) ∙ entry i t first last (omega (arith, less, ap length (list-other i off))))
      (cases_eq (i - 1) (node - 1))

  -- rows stay rows where what is appended are values
  pub rows-longer : (ask : Ask) (from : ℕ) → AreRows ask from rows → ((x : ℕ) → x < length more → slice_index more x ≡ asked_value ask node (length (timed_row rows node) + x)) → AreRows ask from longer
  rows-longer ask from are values = record {
    count = length-set rows (node - 1) _ ∙ are.count;
    room = λ i first last. cap-same i ∙ are.room i first last;
    entry = entries-longer (asked_value ask) (asked_nodes ask) are.entry (omega (arith, are.count)) values;
    reach = λ i first last. omega (arith, are.reach i first last, are-longer.long i);
    arrived = omega (arith, are.arrived, are-longer.long ask.dest);
  }

-- ---- the first rows
empty-read : (needs : List ℕ) (i : ℕ) → get_or (empty_rows needs) (i - 1) empty-row ≡ bank.row_of [] (node_need needs i)
empty-read needs i = maps.get_or-map (λ (n : ℕ). bank.row_of [] n) needs (i - 1) 0

empty-row_of : (needs : List ℕ) (i : ℕ) → timed_row (empty_rows needs) i ≡ []
empty-row_of needs i = ap (λ (r : Row ℕ). r.items) (empty-read needs i)

pub first-rows : NetworkLaws → (ask : Ask) → IsAsk ask → (ones : List ℕ) → ones ≡ replicate (asked_need ask ask.dest) ONE
    → AreRows ask 0 (with_list (empty_rows ask.needs.now) (ask.dest - 1) (timed_row (empty_rows ask.needs.now) ask.dest ++ ones))
first-rows laws ask is ones all =
    let rows : List (Row ℕ) = empty_rows ask.needs.now in
    let count : length rows ≡ asked_nodes ask = length-map ask.needs.now (λ (n : ℕ). bank.row_of [] n) ∙ is.needs.count in
    let inside : ask.dest ≤ length rows = omega (arith, count, is.dest.1) in
    let none : length (timed_row rows ask.dest) ≡ 0 = ap length (empty-row_of ask.needs.now ask.dest) in
    let many : length ones ≡ asked_need ask ask.dest = ap length all ∙ length-replicate (asked_need ask ask.dest) ONE in
    record {
      count = length-set rows (ask.dest - 1) _ ∙ count;
      room = λ i first last. (are-longer rows ask.dest is.dest.0 inside ones).room i ∙ ap (λ (r : Row ℕ). r.cap) (empty-read ask.needs.now i);
      entry = entries-longer rows ask.dest is.dest.0 inside ones (asked_value ask) (asked_nodes ask)
          (λ i t first last less. absurd (omega (arith, less, ap length (empty-row_of ask.needs.now i)))) is.dest.1
          (λ x less.
          ap (λ (xs : List ℕ). slice_index xs x) all ∙ get_or-replicate (asked_need ask ask.dest) x ONE 0 (omega (arith, less, many)) ∙ sym (arrived laws ask is (length (timed_row rows ask.dest) + x)));
      reach = λ i first last. omega arith;
      arrived = omega (arith, own-long rows ask.dest is.dest.0 inside ones, none, many);
    }

pub needs-fit : (needs : List ℕ) (most nodes : ℕ) → All (λ n. n ≤ most) needs → length needs ≡ nodes → nodes * most ≤ 60000000 → sum needs ≤ 2 ^ 31
needs-fit needs most nodes all same small =
    let bound : sum needs ≤ length needs * most = sum_by-le (λ (n : ℕ). n) most needs all in
    let there : length needs * most ≡ nodes * most = ap (λ (k : ℕ). k * most) same in
    omega (arith, bound, there, small)

-- ---- the answer
pub value-read : (ask : Ask) (rows : List (Row ℕ)) (i x : ℕ) → AreRows ask (ask.budget + 1) rows → 1 ≤ i → i ≤ asked_nodes ask → asked_need ask i ≡ ask.budget + 1
    → x ≡ get_or (timed_row rows i) ask.budget x → x ≡ asked_value ask i ask.budget
value-read ask rows i x are low high need is =
    let inside : ask.budget < length (timed_row rows i) = omega (arith, are.reach i low high, need) in
    is ∙ get_or_default (timed_row rows i) ask.budget x 0 inside ∙ are.entry i ask.budget low high inside

-- the choice by the rows is that of the values
pub next-is : (laws : NetworkLaws) (ask : Ask) (is : IsAsk ask) → ask.bound ≡ Lower → (net : Net) → (asked_net ask).at ask.budget ≡ net → (rows : List (Row ℕ)) → AreRows ask (ask.budget + 1) rows
    → (i : ℕ) → (i ≡ ask.dest → ⊥) → asked_need ask i ≡ ask.budget + 1 → choice_of net.arcs (λ a. plain_sum a (row_value rows) ask.budget) i ≡ tchoice (asked_net ask) ask.dest i ask.budget
next-is laws ask is low net here rows are i off need =
    choice-known laws ask is net (ask.budget + 1) 0 rows are (λ k d less opened. omega arith) ask.budget here i off ask.budget (omega arith) (omega (arith, need))
    ∙ ap (λ (b : Bound). choice_of net.arcs (λ a. plain_sum a (timed_value (round_of b) (asked_net ask) ask.dest) ask.budget) i) low
    ∙ ap (λ (n : Net). choice_of n.arcs (λ a. plain_sum a (tlo (asked_net ask) ask.dest) ask.budget) i) (sym here)
    ∙ (rw (ne_eqb i ask.dest off) refl)

-- a block that is done
pub block-rows : (ask : Ask) (from to : ℕ) (rows : List (Row ℕ)) → IsAsk ask → AreRows ask from rows
    → ((k : ℕ) → k < length ask.visited.now → min to (asked_need ask (slice_index ask.visited.now k)) ≤ length (timed_row rows (slice_index ask.visited.now k)))
    → AreRows ask to rows
block-rows ask from to rows is are done = record {
  count = are.count;
  room = are.room;
  entry = are.entry;
  reach = λ i first last.
      ⊎_elim
      (λ (at : i ≡ ask.dest). subst (λ (n : ℕ). min to (asked_need ask n) ≤ length (timed_row rows n)) (sym at) (omega (arith, are.arrived)))
      (λ (off : i ≡ ask.dest → ⊥).
      ⊎_elim
      (λ (some : 0 < asked_need ask i).
      let found = is.visited.all i first (omega (arith, last, is.needs.count)) off (omega arith) in
      subst (λ (n : ℕ). min to (asked_need ask n) ≤ length (timed_row rows n)) found.2 (done found.0 found.1))
      (λ (none : asked_need ask i ≤ 0). omega arith)
      (cases_lt 0 (asked_need ask i)))
      (cases_eq i ask.dest);
  arrived = are.arrived;
}
