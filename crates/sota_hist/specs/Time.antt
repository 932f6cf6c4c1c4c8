-- The travel time of an arc: which ticks it may take, and the mass of each.
use Rattle.std.specs.Prelude.{ℕ, Bool, true, false, ◌+◌, ◌-◌, ◌<◌, ◌≤◌, ◌==◌, nat_le, nat_lt, not}
use Rattle.std.specs.Prelude.{min, max}
use Rattle.std.specs.Prelude.{List, [], ◌∷◌, ◌++◌, map, Option, None, Some}
use Rattle.std.specs.Option.{option_map_or}
use Rattle.std.specs.List.{sum_by, filter}

-- pairs of a tick and a mass: the ticks rise from one above `floor`, and each mass is positive
abbrev pub RisesFrom : ℕ → List (ℕ × ℕ) → Type 0
RisesFrom floor [] = Unit {0}
RisesFrom floor (p ∷ ps) = (floor < p.0) × (1 ≤ p.1) × RisesFrom p.0 ps

-- a travel time: no tick is 0, so that each road takes time
abbrev pub IsTime : List (ℕ × ℕ) → Type 0
IsTime pairs = RisesFrom 0 pairs

-- the sum of the masses
abbrev pub total : List (ℕ × ℕ) → ℕ
total pairs = sum_by (λ p. p.1) pairs

-- whether there is no pair: then no traversal ever ends, and the arc is closed
abbrev pub is_closed : List (ℕ × ℕ) → Bool
is_closed [] = true
is_closed (p ∷ ps) = false

-- the least tick, 0 where there is none: ticks rise, so it is the first
abbrev pub least_tick : List (ℕ × ℕ) → ℕ
least_tick [] = 0
least_tick (p ∷ ps) = p.0

-- the greatest tick, 0 where there is none
abbrev pub greatest_tick : List (ℕ × ℕ) → ℕ
greatest_tick [] = 0
greatest_tick (p ∷ ps) = max p.0 (greatest_tick ps)

-- how many ticks there are from the least to the greatest
abbrev pub span : List (ℕ × ℕ) → ℕ
span pairs = greatest_tick pairs - least_tick pairs + 1

-- the ticks, in the order of the pairs
abbrev pub ticks : List (ℕ × ℕ) → List ℕ
ticks pairs = map (λ p. p.0) pairs

-- the pairs at ticks of at most t
abbrev pub within : ℕ → List (ℕ × ℕ) → List (ℕ × ℕ)
within t pairs = filter (λ p. nat_le p.0 t) pairs

-- the pairs at ticks below t
abbrev pub before : ℕ → List (ℕ × ℕ) → List (ℕ × ℕ)
before t pairs = filter (λ p. nat_lt p.0 t) pairs

-- the mass at tick t, 0 where the tick is absent
abbrev pub mass_at : ℕ → List (ℕ × ℕ) → ℕ
mass_at t pairs = total (filter (λ p. p.0 == t) pairs)

-- the least number of a list, none where it is empty
abbrev pub least_of : List ℕ → Option ℕ
least_of [] = None
least_of (x ∷ xs) = Some (option_map_or (λ y. min x y) (least_of xs) x)

-- the least tick at which two times have different masses: it is a tick of one of them, since the
-- mass elsewhere is 0 in both
abbrev pub first_difference : List (ℕ × ℕ) → List (ℕ × ℕ) → Option ℕ
first_difference one other =
    least_of (filter (λ t. not (mass_at t one == mass_at t other)) (ticks one ++ ticks other))

-- the first tick whose cumulated mass exceeds the draw
abbrev pub picked : ℕ → List (ℕ × ℕ) → Option ℕ
picked draw pairs = least_of (filter (λ t. nat_lt draw (total (within t pairs))) (ticks pairs))
