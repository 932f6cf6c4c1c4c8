-- A trip is settled by its step: what is left of the budget falls at each move.
use Rattle.std.proofs.Common.{ℕ, zero, suc, ◌≡◌, ◌-◌, ◌<◌, ◌≤◌, ◌==◌, Bool, true, false, List, [], ◌∷◌, min, Option, None, Some, option_and_then, refl, ap, arith, ⊎_elim, nat_lt, if◌then◌else◌}
use Rattle.std.specs.Option.{option_map_or}
use Rattle.std.specs.List.{filter}
use Rattle.std.proofs.lemmas.Option.{none-some, same_Some}
use Rattle.std.proofs.lemmas.Bool.{cases_lt, le-leb, lt-leb}
use Rattle.rand_pcg.specs.Lcg.{Lcg}
use Rattle.sota_words.specs.Drawn.{drawn}
use Rattle.sota_hist.specs.Time.{RisesFrom, IsTime, ticks, total, within, least_of, picked}
use Rattle.sota_network.specs.Network.{Net, IsArc, arc_at}
use Rattle.sota_network.specs.Grid.{by_budget, repeated}
use Rattle.sota_network.specs.declared.network.Arc.{Arc}
use Rattle.sota_polfile.specs.Table.{Table}
use Rattle.sota_check.specs.Certified.{rule}
use Rattle.sota_replay.specs.declared.ending.Ending.{Ending}
use Rattle.sota_replay.specs.declared.ending.Ending.TheVariants.{Arrived, Late, NoChoice}
use Rattle.sota_replay.specs.Trip.{Trips, move, trip_step, trip_from}

-- the least of some ticks is above what all of them are above
least_above : (x floor m : ℕ) (rest : Option ℕ) → floor < x → ((k : ℕ) → rest ≡ Some k → x < k) → Some (option_map_or (λ y. min x y) rest x) ≡ Some m → floor < m
least_above x floor m None low above is = let e : x ≡ m = same_Some _ _ is in omega arith
least_above x floor m (Some k) low above is =
    let e : min x k ≡ m = same_Some _ _ is in
    let h : x < k = above k refl in
    omega arith

-- the same where one tick is put before others or is not
kept_above : (b : Bool) (x floor m : ℕ) (xs : List ℕ) → floor < x → ((k : ℕ) → least_of xs ≡ Some k → x < k) → least_of (if b then x ∷ xs else xs) ≡ Some m → floor < m
kept_above true x floor m xs low above is = least_above x floor m (least_of xs) low above is
kept_above false x floor m xs low above is = let h : x < m = above m is in omega arith

passing_above : (test : ℕ → Bool) (floor m : ℕ) (ps : List (ℕ × ℕ)) → RisesFrom floor ps → least_of (filter test (ticks ps)) ≡ Some m → floor < m
passing_above test floor m [] r is = absurd (none-some m is)
passing_above test floor m (p ∷ ps) r is =
    kept_above (test p.0) p.0 floor m (filter test (ticks ps)) r.0 (λ k e. passing_above test p.0 k ps r.2 e) is

-- a tick that is drawn is at least 1
pub picked_positive : (draw tick : ℕ) (time : List (ℕ × ℕ)) → IsTime time → picked draw time ≡ Some tick → 1 ≤ tick
picked_positive draw tick time valid is =
    let h : 0 < tick = passing_above (λ t. nat_lt draw (total (within t time))) 0 tick time valid is in omega arith

-- the arc of a number is one of the network
abbrev pub NumbersArcs : Net → Type 0
NumbersArcs net = (e : ℕ) (arc : Arc) → arc_at net e ≡ Some arc → IsArc net arc

-- how a trip ends that is taken no step at all
abbrev late : Lcg → Ending × Lcg
late words = (Late, words)

-- both give the same trips with less than t ticks left
abbrev AgreeBelow : ℕ → Trips → Trips → Type 0
AgreeBelow t f g = (j u : ℕ) (words : Lcg) → u < t → f j u words ≡ g j u words

picked-reads : (f g : Trips) (arc : Arc) (t : ℕ) (draw : ℕ × Lcg) → IsTime arc.time → AgreeBelow t f g → (o : Option ℕ) → picked draw.0 arc.time ≡ o → move f arc t draw ≡ move g arc t draw
picked-reads f g arc t draw valid agree None is = rw (is, move) refl
picked-reads f g arc t draw valid agree (Some tick) is =
    let some : 1 ≤ tick = picked_positive draw.0 tick arc.time valid is in
    ⊎_elim
    (λ (out : t < tick). rw (is, move, lt-leb tick t out) refl)
    (λ (inside : tick ≤ t).
    let less : t - tick < t = omega arith in
    rw (is, move, le-leb tick t inside) (agree arc.head (t - tick) draw.1 less))
    (cases_lt t tick)

-- what follows where a road is taken, or none is
abbrev taking : Net → Trips → ℕ → Lcg → Option Arc → Ending × Lcg
taking net f t words o = elim o as (λ _. Ending × Lcg) [
  | None ↦ (NoChoice, words)
  | Some arc ↦ move f arc t (drawn net.scale words)
]

road-reads : (net : Net) → NumbersArcs net → (f g : Trips) (t e : ℕ) (words : Lcg) → AgreeBelow t f g → (o : Option Arc) → arc_at net e ≡ o → taking net f t words o ≡ taking net g t words o
road-reads net valid f g t e words agree None is = refl
road-reads net valid f g t e words agree (Some arc) is =
    picked-reads f g arc t (drawn net.scale words) (let v : IsArc net arc = valid e arc is in v.time) agree (picked (drawn net.scale words).0 arc.time) refl

rule-reads : (net : Net) → NumbersArcs net → (f g : Trips) (t : ℕ) (words : Lcg) → AgreeBelow t f g → (o : Option ℕ) → taking net f t words (option_and_then (arc_at net) o) ≡ taking net g t words (option_and_then (arc_at net) o)
rule-reads net valid f g t words agree None = refl
rule-reads net valid f g t words agree (Some e) = road-reads net valid f g t e words agree (arc_at net e) refl

-- the step of a trip reads only trips with less of the budget left
step-reads : (net : Net) (table : Table) → NumbersArcs net → (f g : Trips) (i t : ℕ) (words : Lcg) → AgreeBelow t f g → trip_step net table f i t words ≡ trip_step net table g i t words
step-reads net table valid f g i t words agree =
    ap (λ (rest : Ending × Lcg). if i == table.head.dest then (Arrived (table.head.budget - t), words) else rest) (rule-reads net valid f g t words agree (rule table i t))

-- so often as is enough for the budget that is left, how often the step is taken makes no difference
settled : (net : Net) (table : Table) → NumbersArcs net → (k l i t : ℕ) (words : Lcg) → t < k → t < l → repeated late (trip_step net table) k i t words ≡ repeated late (trip_step net table) l i t words
settled net table valid zero l i t words h g = absurd (omega arith)
settled net table valid (suc k) zero i t words h g = absurd (omega arith)
settled net table valid (suc k) (suc l) i t words h g =
    step-reads net table valid (repeated late (trip_step net table) k) (repeated late (trip_step net table) l) i t words
    (λ j u rest less. settled net table valid k l j u rest (omega arith) (omega arith))

pub trip_from-is : (net : Net) (table : Table) → NumbersArcs net → (i t : ℕ) (words : Lcg) → trip_from net table i t words ≡ trip_step net table (trip_from net table) i t words
unfolding trip_from by_budget
trip_from-is net table valid i t words =
    step-reads net table valid (repeated late (trip_step net table) t) (λ j u. repeated late (trip_step net table) (suc u) j u) i t words
    (λ j u rest less. settled net table valid t (suc u) j u rest less (omega arith))
