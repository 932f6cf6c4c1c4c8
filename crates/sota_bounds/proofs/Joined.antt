-- Walks between the source of a search and a node, in the order in which the search meets their arcs.
use Rattle.std.proofs.Common.{ℕ, ◌≡◌, ◌≢◌, ◌+◌, ◌≤◌, Bool, true, false, length, Option, None, Some, refl, subst, arith}
use Rattle.std.specs.List.{All, Contains}
use Rattle.sota_hist.specs.Time.{is_closed, least_tick}
use Rattle.sota_network.specs.Network.{Net, IsNode, IsArc, arc_at}
use Rattle.sota_network.specs.Numbers.{numbers}
use Rattle.sota_network.specs.Walks.{Walk, empty, step}
use Rattle.sota_network.specs.declared.network.Arc.{Arc}
use Rattle.sota_bounds.specs.Search.{source_of, target_of, IsLeastBetween, Joins, IsBeyond, IsFoundBetween}
use Rattle.sota_bounds.specs.declared.search.Direction.{Direction}
use Rattle.sota_bounds.specs.declared.search.Direction.TheVariants.{Along, Against}

-- what the laws of networks say of arcs by their numbers
pub record HasArcs (net : Net) : Type 0 where
  pub valid : (e : ℕ) (arc : Arc) → arc_at net e ≡ Some arc → IsArc net arc
  pub only : (test : Arc → Bool) → All (λ (e : ℕ). (arc : Arc) × (arc_at net e ≡ Some arc) × (test arc ≡ true)) (numbers test 1 net.arcs)
  pub every : (test : Arc → Bool) (e : ℕ) (arc : Arc) → arc_at net e ≡ Some arc → test arc ≡ true → Contains (numbers test 1 net.arcs) e
  pub few : (test : Arc → Bool) → length (numbers test 1 net.arcs) ≤ length net.arcs

pub start-valid : (net : Net) (direction : Direction) (arc : Arc) → IsArc net arc → IsNode net (source_of direction arc)
start-valid net Along arc is = is.tail
start-valid net Against arc is = is.head

pub end-valid : (net : Net) (direction : Direction) (arc : Arc) → IsArc net arc → IsNode net (target_of direction arc)
end-valid net Along arc is = is.head
end-valid net Against arc is = is.tail

-- a walk may go over the arc
abbrev pub IsUsable : ℕ → Arc → Type 0
IsUsable dest arc = (arc.tail ≢ dest) × (is_closed arc.time ≡ false)

pub joins-start : (net : Net) (dest : ℕ) (direction : Direction) (source : ℕ) → Joins net dest direction source source 0
joins-start net dest Along source = empty
joins-start net dest Against source = empty

-- one arc more at the end
lengthened : (net : Net) (dest e : ℕ) (arc : Arc) → arc_at net e ≡ Some arc → IsUsable dest arc → {i j n : ℕ} → Walk net dest i j n → arc.tail ≡ j → Walk net dest i arc.head (n + least_tick arc.time)
lengthened net dest e arc number usable {i} empty at =
    let sum : least_tick arc.time + 0 ≡ 0 + least_tick arc.time = omega arith in
    let one : Walk net dest arc.tail arc.head (least_tick arc.time + 0) = step {j = arc.head} {n = 0} e arc number usable.0 usable.1 empty in
    subst (λ (m : ℕ). Walk net dest i arc.head m) sum (subst (λ (k : ℕ). Walk net dest k arc.head (least_tick arc.time + 0)) at one)
lengthened net dest e arc number usable (step {j} {n} f first its_number its_leaves its_open rest) at =
    let sum : least_tick first.time + (n + least_tick arc.time) ≡ least_tick first.time + n + least_tick arc.time = omega arith in
    subst (λ (m : ℕ). Walk net dest first.tail arc.head m) sum
    (step {j = arc.head} {n = n + least_tick arc.time} f first its_number its_leaves its_open (lengthened net dest e arc number usable rest at))

pub joins-step : (net : Net) (dest : ℕ) (direction : Direction) (source e : ℕ) (arc : Arc) (n : ℕ) → arc_at net e ≡ Some arc → IsUsable dest arc → Joins net dest direction source (source_of direction arc) n
    → Joins net dest direction source (target_of direction arc) (n + least_tick arc.time)
joins-step net dest Along source e arc n number usable walk = lengthened net dest e arc number usable walk refl
joins-step net dest Against source e arc n number usable walk =
    let sum : least_tick arc.time + n ≡ n + least_tick arc.time = omega arith in
    subst (λ (m : ℕ). Walk net dest arc.tail source m) sum (step {j = source} {n = n} e arc number usable.0 usable.1 walk)

-- what holds at the source, and is kept over each arc, holds along all these walks
module _ (net : Net) (dest : ℕ) (direction : Direction) (source : ℕ) (P : ℕ → ℕ → Type 0) where
  abbrev pub Keeps : Type 0
  Keeps = (e : ℕ) (arc : Arc) (n : ℕ) → arc_at net e ≡ Some arc → IsUsable dest arc → Joins net dest direction source (source_of direction arc) n
      → P (source_of direction arc) n → P (target_of direction arc) (n + least_tick arc.time)

against : (net : Net) (dest : ℕ) (P : ℕ → ℕ → Type 0) {i source n : ℕ} → Keeps net dest Against source P → P source 0 → Walk net dest i source n → P i n
against net dest P keeps first empty = first
against net dest P keeps first (step {j} {n} e arc number leaves passable rest) =
    let sum : n + least_tick arc.time ≡ least_tick arc.time + n = omega arith in
    subst (P arc.tail) sum (keeps e arc n number (leaves, passable) rest (against net dest P keeps first rest))

along : (net : Net) (dest source : ℕ) (P : ℕ → ℕ → Type 0) → Keeps net dest Along source P → (m : ℕ) {i j n : ℕ} → Walk net dest source i m → P i m → Walk net dest i j n → P j (m + n)
along net dest source P keeps m {i} done here empty =
    let sum : m ≡ m + 0 = omega arith in
    subst (P i) sum here
along net dest source P keeps m {i} {j} done here (step {n = rest_sum} e arc number leaves passable rest) =
    let sum : m + least_tick arc.time + rest_sum ≡ m + (least_tick arc.time + rest_sum) = omega arith in
    subst (P j) sum
    (along net dest source P keeps (m + least_tick arc.time) (lengthened net dest e arc number (leaves, passable) done refl) (keeps e arc m number (leaves, passable) done here) rest)

pub joins-kept : (net : Net) (dest : ℕ) (direction : Direction) (source : ℕ) (P : ℕ → ℕ → Type 0) → Keeps net dest direction source P → P source 0 → (i n : ℕ) → Joins net dest direction source i n → P i n
joins-kept net dest Along source P keeps first i n walk =
    let sum : 0 + n ≡ n = omega arith in
    subst (P i) sum (along net dest source P keeps 0 empty first walk)
joins-kept net dest Against source P keeps first i n walk = against net dest P keeps first walk

-- the least of these sums
pub record IsLeastJoin (net : Net) (dest : ℕ) (direction : Direction) (source i n : ℕ) : Type 0 where
  pub walk : Joins net dest direction source i n
  pub least : (m : ℕ) → Joins net dest direction source i m → n ≤ m

pub least-some : (net : Net) (dest : ℕ) (direction : Direction) (source i n : ℕ) → IsLeastJoin net dest direction source i n → IsLeastBetween net dest direction source i (Some n)
least-some net dest Along source i n is = record { walk = is.walk; least = is.least }
least-some net dest Against source i n is = record { walk = is.walk; least = is.least }

pub least-none : (net : Net) (dest : ℕ) (direction : Direction) (source i : ℕ) → ((n : ℕ) → Joins net dest direction source i n → ⊥) → IsLeastBetween net dest direction source i None
least-none net dest Along source i never = never
least-none net dest Against source i never = never

-- what is found where nothing is beyond is the least time
pub found-least : (net : Net) (dest : ℕ) (direction : Direction) (source i : ℕ) (found : Option ℕ) → IsFoundBetween None net dest direction source i found → IsLeastBetween net dest direction source i found
found-least net dest direction source i None is = least-none net dest direction source i is
found-least net dest direction source i (Some n) is = is

pub beyond-later : (most : Option ℕ) (m n : ℕ) → m ≤ n → IsBeyond most m → IsBeyond most n
beyond-later None m n h beyond = beyond
beyond-later (Some most) m n h beyond = omega (arith, h, beyond)
