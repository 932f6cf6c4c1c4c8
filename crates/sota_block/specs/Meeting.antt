-- The products that meet at a place of two blocks, and their halves: of a product of a mass and a
-- value of 64 bits, lanes of 64 bits hold what the value's lower half gives and what its upper half
-- gives.
use Rattle.std.specs.Prelude.{ℕ, ◌≡◌, ◌<◌, ◌≤◌, ◌+◌, ◌-◌, ◌*◌, ◌/◌, ◌%◌, ◌^◌, ◌&&◌, nat_le, nat_lt}
use Rattle.std.specs.Prelude.{if◌then◌else◌, List, length, slice_index}
use Rattle.sota_block.specs.Product.{sum_below}

-- a value is high_half * 2 ^ 32 + low_half
abbrev pub low_half : ℕ → ℕ
low_half value = value % 4294967296

abbrev pub high_half : ℕ → ℕ
high_half value = value / 4294967296

-- The value that mass b meets at a place: the one with the number place - b, where that is `from`
-- or more and below `to`; else 0
abbrev pub met : (ℕ → ℕ) → ℕ → ℕ → ℕ → ℕ → ℕ
met values from to place b =
    if nat_le (from + b) place && nat_lt place (to + b) then values (place - b) else 0

-- the products that meet at a place of a block of masses and the first `size` values
abbrev pub meeting : List ℕ → (ℕ → ℕ) → ℕ → ℕ → ℕ
meeting masses values size place =
    sum_below (length masses) (λ b. slice_index masses b * met values 0 size place b)

-- those of masses and the lower halves of a block of values, and the upper ones
abbrev pub meeting_lows : List ℕ → List ℕ → ℕ → ℕ
meeting_lows masses values place =
    meeting masses (λ a. low_half (slice_index values a)) (length values) place

abbrev pub meeting_highs : List ℕ → List ℕ → ℕ → ℕ
meeting_highs masses values place =
    meeting masses (λ a. high_half (slice_index values a)) (length values) place

-- the sum of masses[b] times a part of values[place - b]
abbrev pub crossed_by : (ℕ → ℕ) → List ℕ → List ℕ → ℕ → ℕ
crossed_by part masses values place = sum_below (length masses)
    (λ b. slice_index masses b * part (slice_index values (place - b)))

-- Eight sums in a row, each in two halves, to which the products of masses with the values from
-- `at` backwards can be added
pub record HasEight (masses values : List ℕ) (at : ℕ) (low high : List ℕ) : Type 0 where
  pub before : length masses ≤ at + 1
  pub within : at + 8 ≤ length values
  pub low_room : length low ≡ 8
  pub high_room : length high ≡ 8
  pub low_fits : (j : ℕ) → j < 8
      → slice_index low j + crossed_by low_half masses values (at + j) < 2 ^ 64
  pub high_fits : (j : ℕ) → j < 8
      → slice_index high j + crossed_by high_half masses values (at + j) < 2 ^ 64

-- they were added
pub record EightGrow (masses values : List ℕ) (at : ℕ) (low high low' high' : List ℕ) : Type 0
  where
    pub low_sums : (j : ℕ) → j < 8
        → slice_index low' j ≡ slice_index low j + crossed_by low_half masses values (at + j)
    pub high_sums : (j : ℕ) → j < 8
        → slice_index high' j ≡ slice_index high j + crossed_by high_half masses values (at + j)

-- A list that says at each place where the next mass that is not 0 may stand: all before that place
-- are 0. Its places are counted from `shift` on, as those of a part of a longer list are
pub record IsSkips (masses skips : List ℕ) (shift : ℕ) : Type 0 where
  pub long : length skips ≡ length masses
  pub forward : (b : ℕ) → b < length masses → shift + b ≤ slice_index skips b
  pub zeros : (b i : ℕ) → b < length masses → b ≤ i → shift + i < slice_index skips b
      → slice_index masses i ≡ 0
