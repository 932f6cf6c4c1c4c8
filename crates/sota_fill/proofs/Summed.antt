-- The sums of an arc by its summers are those by the tables.
use Rattle.std.proofs.Common.{ℕ, ◌≡◌, ◌+◌, ◌-◌, ◌<◌, ◌≤◌, false, List, length, sym, subst, arith, take, ◌++◌}
use Rattle.std.proofs.lemmas.List.{length-take, length-append}
use Rattle.sota_hist.specs.Time.{IsTime, is_closed, least_tick}
use Rattle.sota_network.specs.Grid.{weighed}
use Rattle.sota_online.specs.Summer.{SummerState}
use Rattle.sota_fill.specs.declared.broad.Summers.{Summers}
use Rattle.sota_network.specs.Network.{Net}
use Rattle.sota_network.specs.declared.network.Arc.{Arc}
use Rattle.sota_kept.specs.Ticks.{least_to}
use Rattle.sota_kept.specs.NodeTables.{NodeTable}
use Rattle.sota_sums.specs.declared.bound.Bound.{Bound}
use Rattle.sota_sums.specs.declared.bound.Bound.TheVariants.{Lower, Upper}
use Rattle.sota_fill.specs.Bounds.{summer_in, grid_in, value_in}
use Rattle.sota_fill.specs.Fills.{ReadsAs}
use Rattle.sota_fill.specs.Fed.{IsFed, AreFed, Reaches, AllFed, SummersList}
use Rattle.sota_fill.proofs.PairSums.{weighed-same}
use Rattle.sota_fill.proofs.Feeding.{rises-least}

-- ---- by a bound
pub fed-as : {Z : Type 0} (state : Z → SummerState) (net : Net) (dest : ℕ) (arc : Arc) (from to : ℕ) (two : Summers Z) (bound : Bound) → AreFed state net dest arc from to two
    → IsFed (state (summer_in bound two)) arc.time (least_to net dest arc.head) (grid_in bound net dest arc.head) × Reaches (state (summer_in bound two)) arc.time (least_to net dest arc.head) from to
fed-as state net dest arc from to two Lower fed = (fed.lower, fed.lower_reach)
fed-as state net dest arc from to two Upper fed = (fed.upper, fed.upper_reach)

pub reads-as : (net : Net) (dest : ℕ) (arc : Arc) (to : ℕ) (tables : ℕ → NodeTable) (bound : Bound) → ReadsAs net dest arc to tables → is_closed arc.time ≡ false → (u : ℕ) → u + least_tick arc.time < to
    → value_in bound dest tables arc.head u ≡ grid_in bound net dest arc.head u
reads-as net dest arc to tables Lower reads opened u less = reads.lower opened u less
reads-as net dest arc to tables Upper reads opened u less = reads.upper opened u less

-- values that are equal as far as an arc reads them
pub sums-agree : (f g : ℕ → ℕ) (from x count : ℕ) (time : List (ℕ × ℕ)) → IsTime time → x < count → ((u : ℕ) → u + least_tick time < from + count → g u ≡ f u)
    → weighed f (from + x) time ≡ weighed g (from + x) time
sums-agree f g from x count time r less same =
    weighed-same f g (from + x) (least_tick time - 1) time (rises-least time r) (λ u h. sym (same u (omega arith)))

-- a summer that was lent, and a base that was read
pub fed-lent : {Z : Type 0} (state : Z → SummerState) (one other : Z) (time : List (ℕ × ℕ)) (base least : ℕ) (f : ℕ → ℕ) → one ≡ other → base ≡ least → IsFed (state other) time least f → IsFed (state one) time base f
fed-lent {Z} state one other time base least f lent at fed =
    subst (λ (b : ℕ). IsFed (state one) time b f) (sym at) (subst (λ (z : Z). IsFed (state z) time least f) (sym lent) fed)

-- what was fed is enough for later budgets and for fewer
pub all-fed-less : {Z : Type 0} (state : Z → SummerState) (net : Net) (dest i from from' to to' : ℕ) (broad : SummersList Z) → AllFed state net dest i from to broad → from ≤ from' → to' ≤ to → AllFed state net dest i from' to' broad
all-fed-less {Z} state net dest i from from' to to' broad all later less e arc two number tail is =
    let fed = all e arc two number tail is in
    record { open_arc = fed.open_arc; lower = fed.lower; upper = fed.upper; lower_reach = (omega (arith, fed.lower_reach.0), omega (arith, fed.lower_reach.1)); upper_reach = (omega (arith, fed.upper_reach.0), omega (arith, fed.upper_reach.1)) }

-- ---- the first items of an array, of which some were written
pub take-long : {X : Type 0} (n : ℕ) (xs : List X) → n ≤ length xs → length (take n xs) ≡ n
take-long n xs within = simp length-take (omega (arith, within))

pub take-written : {X : Type 0} (n : ℕ) (xs rest : List X) → length xs ≡ n → length (take n (xs ++ rest)) ≡ n
take-written n xs rest long = take-long n (xs ++ rest) (omega (arith, long, length-append xs rest))
