-- Which products a summer that works by squares has done, apart from what it means.
use Rattle.std.specs.Prelude.{ℕ, zero, suc, ◌+◌, ◌-◌, ◌*◌, ◌/◌, ◌^◌, ◌%◌, ◌==◌, ◌&&◌, ◌<◌, ◌≤◌}
use Rattle.std.specs.Prelude.{◌≡◌, nat_le, nat_lt, if◌then◌else◌}
use Rattle.std.specs.Prelude.{List, length, slice_index, take, sum}
use Rattle.sota_units.specs.Rounding.{ONE, SCALE_LIMIT}
use Rattle.sota_block.specs.Meeting.{met, IsSkips}
use Rattle.sota_block.specs.Product.{sum_below, fold_count}

-- the products at a position of the masses b with size <= b < 2 * size, with the values from
-- `from` up to `to`
abbrev pub square : (ℕ → ℕ) → (ℕ → ℕ) → ℕ → ℕ → ℕ → ℕ → ℕ
square masses values size from to position =
    sum_below size (λ i. masses (size + i) * met values from to position (size + i))

-- The same over the first levels: at level r the masses b with 2 ^ r <= b < 2 ^ (r + 1), and the
-- first `reach r` values
unfoldable pub levels : (ℕ → ℕ) → (ℕ → ℕ) → (ℕ → ℕ) → ℕ → ℕ → ℕ
levels masses values reach count position =
    sum_below count (λ r. square masses values (2 ^ r) 0 (reach r) position)

-- n halved r times
abbrev pub halved : ℕ → ℕ → ℕ
halved n zero = n
halved n (suc r) = halved n r / 2

-- after n feeds, level r has met its whole blocks of 2 ^ r values
abbrev pub whole_blocks : ℕ → ℕ → ℕ
whole_blocks n r = halved n r * 2 ^ r

-- The same where the levels below `first` are left out: they meet nothing
abbrev pub reached : ℕ → ℕ → ℕ → ℕ
reached first n r = if nat_lt r first then 0 else whole_blocks n r

-- enough levels for each kernel
abbrev pub LEVELS : ℕ
LEVELS = 17

-- the masses by their numbers, counted from 1
abbrev pub numbered : List ℕ → ℕ → ℕ
numbered kernel b = slice_index kernel (b - 1)

-- Two numbers that hold the products at a position: of the lower and of the upper halves of the
-- values. Neither is large, since each mass meets at most one value there. Before a start they may
-- hold less
pub record HoldsProducts (masses values reach : ℕ → ℕ) (count start position low high : ℕ) : Type 0
  where
    pub sum : start ≤ position → low + 4294967296 * high ≡ levels masses values reach count position
    pub low_le : low ≤ levels masses (λ a. 1) reach count position * 4294967295
    pub high_le : high ≤ levels masses (λ a. 1) reach count position * 4294967295

-- What a summer by squares keeps: the kernel, the least level and size of its squares, values of
-- which the first `fed` were fed, and at each position from the start on two numbers that hold the
-- products of all whole blocks of these levels. Where the kernel is too short for a square it needs
-- no rows
pub record IsWorkedOff (masses skips : List ℕ) (first smallest : ℕ) (values : List ℕ)
    (fed start : ℕ) (low high : List ℕ) : Type 0 where
  pub skips_are : IsSkips masses skips 0
  pub size_is : smallest ≡ 2 ^ first
  pub first_ge : 3 ≤ first
  pub first_le : first ≤ 9
  pub few : sum masses ≤ SCALE_LIMIT
  pub fed_le : fed ≤ length values
  pub few_values : length values ≤ 65536
  pub few_masses : length masses ≤ length values
  pub low_eights : length low % 8 ≡ 0
  pub low_room : smallest ≤ length masses → length values < length low
  pub high_room : length high ≡ length low
  pub small : (a : ℕ) → slice_index values a ≤ ONE
  pub held : (p : ℕ) → p < length low
      → HoldsProducts (numbered masses) (λ a. slice_index (take fed values) a)
      (λ r. reached first fed r) LEVELS start p (slice_index low p) (slice_index high p)

-- how many products a square of the blocks that the k-th value ends may take, at level r, of a
-- kernel with so many places
abbrev pub square_count : ℕ → ℕ → ℕ → ℕ
square_count span k r = if (k % 2 ^ r == 0) && nat_le (2 ^ r) span then fold_count r else 0

-- and all of them together; no level is as great as the kernel is long
abbrev pub square_counts : ℕ → ℕ → ℕ
square_counts span k = sum_below span (λ r. square_count span k r)

-- and of `count` values after the first `fed` ones
abbrev pub feeds_count : ℕ → ℕ → ℕ → ℕ
feeds_count span fed count = sum_below count (λ i. square_counts span (fed + i + 1))
