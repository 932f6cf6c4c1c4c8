-- What a summer means, and what it answers.
use Rattle.std.specs.Prelude.{ℕ, ◌≡◌, ◌+◌, ◌-◌, ◌*◌, ◌<◌, ◌≤◌, ◌⊎◌, min, List, [], ◌∷◌, ◌++◌, map}
use Rattle.std.specs.Prelude.{slice_index, length}
use Rattle.std.specs.List.{range_with_len}
use Rattle.sota_hist.specs.Time.{least_tick, mass_at, span}
use Rattle.sota_block.specs.Product.{sum_below}

-- the masses by ticks from the least on, the values fed so far, how many more can be fed, and the
-- first position at which a sum may be read
pub record SummerState : Type 0 where
  pub kernel : List ℕ
  pub values : List ℕ
  pub room : ℕ
  pub start : ℕ

-- The masses at the ticks from the least on, absent ones being 0, up to the greatest tick but no
-- more than `length`. Further ones meet no value, since no more than `length` values are fed
abbrev pub kernel_of : ℕ → List (ℕ × ℕ) → List ℕ
kernel_of length time =
    map (λ b. mass_at (least_tick time + b) time) (range_with_len 0 (min (span time) length))

-- a summer of these ticks with room for so many values, to which none was fed
abbrev pub unfed : ℕ → ℕ → List (ℕ × ℕ) → SummerState
unfed room start time = record {
  kernel = kernel_of room time;
  values = [];
  room = room;
  start = start;
}

-- The sum at a position p of at least 1: of the kernel's b-th mass times the value p - b, over b
-- from 1 to p. Masses are counted from 1 and values from 0, so that mass b stands at place b - 1 of
-- the kernel. Past its end a mass is 0
abbrev pub plain : List ℕ → List ℕ → ℕ → ℕ
plain kernel values position =
    sum_below position (λ b. slice_index kernel b * slice_index values (position - 1 - b))

-- one value more
abbrev pub fed_more : ℕ → SummerState → SummerState
fed_more value state = record {
  kernel = state.kernel;
  values = state.values ++ value ∷ [];
  room = state.room - 1;
  start = state.start;
}

-- several values more
abbrev pub fed_all : List ℕ → SummerState → SummerState
fed_all values state = record {
  kernel = state.kernel;
  values = state.values ++ values;
  room = state.room - length values;
  start = state.start;
}

-- so many values were put from a place on, and all else is as before
pub record IsPut (old new : List ℕ) (at count : ℕ) (value : ℕ → ℕ) : Type 0 where
  pub size : length new ≡ length old
  pub put : (k : ℕ) → k < count → slice_index new (at + k) ≡ value k
  pub others : (j : ℕ) → (j < at) ⊎ (at + count ≤ j) → slice_index new j ≡ slice_index old j
