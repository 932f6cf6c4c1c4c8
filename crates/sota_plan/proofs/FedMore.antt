-- Values that are fed to the summers of an arc.
use Rattle.std.proofs.Common.{ℕ, zero, suc, ◌≡◌, ◌+◌, ◌-◌, ◌<◌, ◌≤◌, max, None, Some, List, [], ◌∷◌, length, get_or, refl, sym, ◌∙◌, ap, subst, arith, ⊎_elim}
use Rattle.std.proofs.lemmas.Bool.{le-ltb, ne_eqb, eq-eqb}
use Rattle.std.proofs.Math.ListN.{set}
use Rattle.std.proofs.lemmas.List.{get_or-set_same}
use Rattle.sota_units.specs.Rounding.{ONE}
use Rattle.sota_hist.specs.Time.{least_tick}
use Rattle.sota_network.specs.Network.{Net}
use Rattle.sota_network.specs.Grid.{lo, hi}
use Rattle.sota_network.specs.declared.network.Arc.{Arc}
use Rattle.sota_kept.specs.Ticks.{least_to}
use Rattle.sota_kept.specs.NodeTables.{NodeTable, IsReadyAt, lower_in, upper_in}
use Rattle.sota_online.specs.Summer.{SummerState, kernel_of}
use Rattle.sota_fill.specs.declared.broad.Summers.{Summers}
use Rattle.sota_fill.specs.Fed.{IsFed, IsSameSummer, SummersList, summers_at}
use Rattle.sota_fill.specs.Fills.{ReadsAs}
use Rattle.sota_plan.specs.Summed.{IsSummed, values_below}

-- ---- what a row has at a budget from a base on
pub get_or-default : {X : Type 0} (xs : List X) (k : ℕ) (d e : X) → k < length xs → get_or xs k d ≡ get_or xs k e
get_or-default [] k d e h = absurd (omega arith)
get_or-default (x ∷ xs) zero d e h = refl
get_or-default (x ∷ xs) (suc k) d e h = get_or-default xs k d e (omega arith)

pub lower-read : (dest head : ℕ) (tables : ℕ → NodeTable) (row : List ℕ) (base tb a : ℕ) → (head ≡ dest → ⊥) → row ≡ (tables head).lower → tb ≡ (tables head).base → tb ≤ base
    → get_or row (base - tb + a) 0 ≡ lower_in dest tables head (base + a)
lower-read dest head tables row base tb a off at is up =
    let above : (tables head).base ≤ base + a = omega arith in
    let place : base - tb + a ≡ base + a - (tables head).base = omega arith in
    rw (ne_eqb head dest off, le-ltb (base + a) (tables head).base above) (ap (λ (k : ℕ). get_or row k 0) place ∙ ap (λ (xs : List ℕ). get_or xs (base + a - (tables head).base) 0) at)

pub upper-read : (dest head : ℕ) (tables : ℕ → NodeTable) (row : List ℕ) (base tb a : ℕ) → (head ≡ dest → ⊥) → row ≡ (tables head).upper → tb ≡ (tables head).base → tb ≤ base
    → get_or row (base - tb + a) 0 ≡ upper_in dest tables head (base + a)
upper-read dest head tables row base tb a off at is up =
    let above : (tables head).base ≤ base + a = omega arith in
    let place : base - tb + a ≡ base + a - (tables head).base = omega arith in
    rw (ne_eqb head dest off, le-ltb (base + a) (tables head).base above) (ap (λ (k : ℕ). get_or row k 0) place ∙ ap (λ (xs : List ℕ). get_or xs (base + a - (tables head).base) 0) at)

-- at the destination each value is one
pub lower-one : (dest head u v : ℕ) (tables : ℕ → NodeTable) → head ≡ dest → lower_in dest tables head u ≡ v → v ≡ ONE
lower-one dest head u v tables here is = sym ((rw (eq-eqb head dest here) at is))

pub upper-one : (dest head u v : ℕ) (tables : ℕ → NodeTable) → head ≡ dest → upper_in dest tables head u ≡ v → v ≡ ONE
upper-one dest head u v tables here is = sym ((rw (eq-eqb head dest here) at is))

-- the base of a table that is ready is not above the least time
pub base-low : (net : Net) (dest i : ℕ) (s : NodeTable) → IsReadyAt net dest i s → s.base ≤ least_to net dest i
base-low net dest i s is =
    ⊎_elim (λ (low : s.base ≤ least_to net dest i). low) (λ (low : s.front ≤ least_to net dest i). let same : s.base ≡ least_to net dest i = is.based low in omega arith) is.settled.kept.least

-- ---- the summers of an arc, by its number
pub summers-set : {Z : Type 0} (broad : SummersList Z) (e n : ℕ) (two : Summers Z) → (1 ≤ e) × (e ≤ n) → length broad ≡ n → summers_at (set broad (e - 1) (Some two)) e ≡ Some two
summers-set {Z} broad e n two number long = get_or-set_same broad (e - 1) (Some two) None (omega (arith, number.0, number.1))

-- there is room to work for the kernel of a summer
pub fits-fed : (s : SummerState) (total places : ℕ) (time : List (ℕ × ℕ)) (base : ℕ) (f : ℕ → ℕ) → IsFed s time base f → length s.values + s.room ≡ total → length (kernel_of total time) ≤ places → length s.kernel ≤ places
fits-fed s total places time base f fed is fits =
    let kernel : s.kernel ≡ kernel_of total time = fed.kernel ∙ ap (λ (n : ℕ). kernel_of n time) is in
    rw kernel fits

-- what feeding both does
pub summed-more : {Z : Type 0} (state : Z → SummerState) (net : Net) (dest : ℕ) (arc : Arc) (count total start to base : ℕ) (two new : Summers Z) (tables : ℕ → NodeTable) → base ≡ least_to net dest arc.head
    → IsSummed state net dest arc count total start two → count ≤ values_below net dest arc to → ReadsAs net dest arc to tables
    → ((f : ℕ → ℕ) → IsFed (state two.lower) arc.time base f → ((u : ℕ) → base ≤ u → u + least_tick arc.time < to → lower_in dest tables arc.head u ≡ f u) → IsFed (state new.lower) arc.time base f)
    → ((f : ℕ → ℕ) → IsFed (state two.upper) arc.time base f → ((u : ℕ) → base ≤ u → u + least_tick arc.time < to → upper_in dest tables arc.head u ≡ f u) → IsFed (state new.upper) arc.time base f)
    → length (state new.lower).values ≡ max (length (state two.lower).values) (to - (least_tick arc.time + base)) → length (state new.upper).values ≡ max (length (state two.upper).values) (to - (least_tick arc.time + base))
    → IsSameSummer (state two.lower) (state new.lower) → IsSameSummer (state two.upper) (state new.upper)
    → IsSummed state net dest arc (values_below net dest arc to) total start new
summed-more {Z} state net dest arc count total start to base two new tables at is less reads lower upper lower-count upper-count lower-same upper-same =
    let L : ℕ = least_to net dest arc.head in
    record {
      open_arc = is.open_arc;
      lower = subst (λ (b : ℕ). IsFed (state new.lower) arc.time b (lo net dest arc.head)) at
          (lower (lo net dest arc.head) (subst (λ (b : ℕ). IsFed (state two.lower) arc.time b (lo net dest arc.head)) (sym at) is.lower) (λ u up early. reads.lower is.open_arc u early));
      upper = subst (λ (b : ℕ). IsFed (state new.upper) arc.time b (hi net dest arc.head)) at
          (upper (hi net dest arc.head) (subst (λ (b : ℕ). IsFed (state two.upper) arc.time b (hi net dest arc.head)) (sym at) is.upper) (λ u up early. reads.upper is.open_arc u early));
      lower_count = omega (arith, lower-count, is.lower_count, less, at);
      upper_count = omega (arith, upper-count, is.upper_count, less, at);
      lower_total = omega (arith, lower-same.total, is.lower_total);
      upper_total = omega (arith, upper-same.total, is.upper_total);
      lower_start = lower-same.start ∙ is.lower_start;
      upper_start = upper-same.start ∙ is.upper_start;
    }
