-- The first entry that repeats the place of an earlier one, also found in the entries in the order
-- of their places.
use Rattle.std.specs.Prelude.{ℕ, ◌≡◌, ◌+◌, ◌<◌, ◌≤◌, List, [], ◌∷◌, ◌++◌, Option, Some, None, true}
use Rattle.std.specs.Prelude.{nat_lt, length, slice_index_or, if◌then◌else◌}
use Rattle.std.specs.List.Sorted.{IsPermutation}
use Rattle.std.specs.Option.{option_or}
use Rattle.sota_histcsv.specs.declared.entry.Entry.{Entry}
use Rattle.sota_histcsv.specs.declared.fault.HistFileFault.{HistFileFault}
use Rattle.sota_histcsv.specs.Records.{same_place, repeat_fault}

-- the fault of the first entry that repeats an earlier one, of entries that stand after others
abbrev pub first_repeat : List Entry → List Entry → Option HistFileFault
first_repeat before [] = None
first_repeat before (entry ∷ entries) =
    option_or (repeat_fault before (Some entry)) (first_repeat (before ++ entry ∷ []) entries)

-- an entry is not after another in the order of arcs, then ticks, then numbers
pub record IsBefore (one other : Entry) : Type 0 where
  pub arc : one.arc ≤ other.arc
  pub tick : one.arc ≡ other.arc → one.tick ≤ other.tick
  pub number : one.arc ≡ other.arc → one.tick ≡ other.tick → one.number ≤ other.number

-- the same entries, in the order of their places
pub record IsByPlace (entries sorted : List Entry) : Type 0 where
  pub moved : IsPermutation entries sorted
  pub order : (k : ℕ) (d : Entry) → k + 1 < length sorted
      → IsBefore (slice_index_or sorted k d) (slice_index_or sorted (k + 1) d)

-- the lesser of two numbers, of which the first may lack
abbrev pub lesser : Option ℕ → ℕ → ℕ
lesser None number = number
lesser (Some least) number = if nat_lt least number then least else number

-- the lesser of a number and an entry's, where one before it has its place
abbrev pub lesser_if : Option ℕ → Entry → Entry → Option ℕ
lesser_if least before entry =
    if same_place before entry then Some (lesser least entry.number) else least

-- there is a number, and it is no greater than another
abbrev pub IsAtMost : Option ℕ → ℕ → Type 0
IsAtMost None number = ⊥
IsAtMost (Some least) number = least ≤ number

-- the entry after this index of a list has the place of the one there
abbrev pub IsTwin : List Entry → Entry → ℕ → Type 0
IsTwin sorted d k =
    same_place (slice_index_or sorted k d) (slice_index_or sorted (k + 1) d) ≡ true

-- the number of such an entry
abbrev pub IsTwins : List Entry → Entry → ℕ → Option ℕ → Type 0
IsTwins sorted d end None = Unit {0}
IsTwins sorted d end (Some number) =
    (k : ℕ) × (k + 1 < end) × IsTwin sorted d k
    × (number ≡ (slice_index_or sorted (k + 1) d).number)

-- the least number of an entry, of those below an end, that stands after one of its place
pub record IsLeastRepeat (sorted : List Entry) (end : ℕ) (answer : Option ℕ) : Type 0 where
  pub least : (d : Entry) (k : ℕ) → k + 1 < end → IsTwin sorted d k
      → IsAtMost answer (slice_index_or sorted (k + 1) d).number
  pub found : (d : Entry) → IsTwins sorted d end answer
