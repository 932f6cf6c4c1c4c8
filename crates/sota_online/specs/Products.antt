-- What a square adds to two rows of sums. A sum at a place is low + 2 ^ 32 * high, low being what
-- stands there in one row and high what stands in the other.
use Rattle.std.specs.Prelude.{ℕ, ◌≡◌, ◌+◌, ◌*◌, ◌^◌, ◌<◌, ◌≤◌, List, length, slice_index, sum}
use Rattle.sota_units.specs.Rounding.{ONE, SCALE_LIMIT}
use Rattle.sota_block.specs.Product.{IsBlockLength}
use Rattle.sota_block.specs.Meeting.{meeting}

-- no more than this comes to either half of a sum: the masses that meet a value of a block of this
-- size there, times the greatest half of a value
abbrev pub most : List ℕ → ℕ → ℕ → ℕ
most masses size place = meeting masses (λ _. 1) size place * 4294967295

-- a row has room for either half of the products of masses and a block of values
abbrev pub FitsHalves : List ℕ → ℕ → List ℕ → Type 0
FitsHalves masses size row =
    (k : ℕ) → k < length row → slice_index row k + most masses size k < 2 ^ 64

-- Masses and a block of values that may be multiplied into the first of the places where they land
pub record IsSquare (masses values low high : List ℕ) : Type 0 where
  pub block : IsBlockLength (length values)
  pub within : length masses ≤ length values
  pub few : sum masses ≤ SCALE_LIMIT
  pub small : (a : ℕ) → slice_index values a ≤ ONE
  pub low_room : length low ≤ 2 * length values
  pub high_room : length high ≡ length low
  pub low_fits : FitsHalves masses (length values) low
  pub high_fits : FitsHalves masses (length values) high

-- The sums there grow by the products, and each row by no more than either half of them
pub record Added (masses values low high low' high' : List ℕ) : Type 0 where
  pub sums : (k : ℕ) → k < length low → slice_index low' k + 4294967296 * slice_index high' k
      ≡ slice_index low k + 4294967296 * slice_index high k
      + meeting masses (λ a. slice_index values a) (length values) k
  pub low_small : (k : ℕ) → k < length low
      → slice_index low' k ≤ slice_index low k + most masses (length values) k
  pub high_small : (k : ℕ) → k < length high
      → slice_index high' k ≤ slice_index high k + most masses (length values) k

-- room from a place on, in as much of the row as there is
abbrev pub Fits : List ℕ → ℕ → ℕ → List ℕ → Type 0
Fits masses size at row = (k : ℕ) → k < 2 * size → at + k < length row
    → slice_index row (at + k) + most masses size k < 2 ^ 64

-- what adding the products from a place on does to the rows, where no sum before a start is wanted
pub record Landed (masses values : List ℕ) (at start : ℕ) (low high low' high' : List ℕ) : Type 0
  where
    pub sums : (k : ℕ) → k < 2 * length values → at + k < length low → start ≤ at + k
        → slice_index low' (at + k) + 4294967296 * slice_index high' (at + k)
        ≡ slice_index low (at + k) + 4294967296 * slice_index high (at + k)
        + meeting masses (λ a. slice_index values a) (length values) k
    pub low_small : (k : ℕ) → k < 2 * length values → at + k < length low
        → slice_index low' (at + k) ≤ slice_index low (at + k) + most masses (length values) k
    pub high_small : (k : ℕ) → k < 2 * length values → at + k < length high
        → slice_index high' (at + k) ≤ slice_index high (at + k) + most masses (length values) k
    pub low_before : (k : ℕ) → k < at → slice_index low' k ≡ slice_index low k
    pub high_before : (k : ℕ) → k < at → slice_index high' k ≡ slice_index high k
    pub low_after : (k : ℕ) → at + 2 * length values ≤ k → slice_index low' k ≡ slice_index low k
    pub high_after : (k : ℕ) → at + 2 * length values ≤ k → slice_index high' k ≡ slice_index high k
