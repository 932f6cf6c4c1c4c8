-- Values in a list, and for each arc the place of its value there.
use Rattle.std.specs.Prelude.{ℕ, zero, suc, ◌≡◌, ◌^◌, ◌<◌, ◌≤◌, nat_lt, List, length}
use Rattle.std.specs.Prelude.{slice_get, slice_index, Option, None}
use Rattle.std.specs.List.{count_by}

-- what stands at a place, where places are counted from one: nothing at 0
abbrev pub placed : {X : Type 0} → List X → ℕ → Option X
placed xs zero = None
placed xs (suc k) = slice_get xs k

-- the places of arcs among so many values: each value has one arc
pub record ArePlaces (places : List ℕ) (count : ℕ) : Type 0 where
  pub few : length places < 2 ^ 32
  pub used : count_by (nat_lt 0) places ≡ count
  pub within : (i : ℕ) → slice_index places i ≤ count
  pub apart : (i j : ℕ) → 0 < slice_index places i → slice_index places i ≡ slice_index places j
      → i ≡ j
