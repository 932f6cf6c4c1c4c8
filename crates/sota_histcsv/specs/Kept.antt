-- What holds of the entries of a text, in the order of their records and in that of their places.
use Rattle.std.specs.Prelude.{ℕ, ◌≡◌, ◌<◌, ◌≤◌, ◌==◌, ◌&&◌, ◌⊎◌, Bool, List, [], ◌∷◌}
use Rattle.std.specs.Prelude.{Result, Ok, Err}
use Rattle.std.specs.List.{All, AllPairs, count_by}
use Rattle.std.specs.List.Sorted.{IsPermutation}
use Rattle.sota_units.specs.Memory.{Unless}
use Rattle.sota_histcsv.specs.declared.entry.Entry.{Entry}
use Rattle.sota_histcsv.specs.declared.fault.HistFileFault.{HistFileFault}
use Rattle.sota_histcsv.specs.declared.table.Table.{Table}
use Rattle.sota_histcsv.specs.Words.{is_shortage}
use Rattle.sota_histcsv.specs.Histograms.{Contents}

-- an entry gives mass to a tick of an arc, and none of the three numbers is 0
pub record HasNoZero (entry : Entry) : Type 0 where
  pub arc : 1 ≤ entry.arc
  pub tick : 1 ≤ entry.tick
  pub mass : 1 ≤ entry.mass

abbrev pub is_at : ℕ → ℕ → Entry → Bool
is_at arc tick entry = (arc == entry.arc) && (tick == entry.tick)

-- a tick of an arc is given mass at most once
pub record AreEntries (entries : List Entry) : Type 0 where
  pub each : All HasNoZero entries
  pub once : (arc tick : ℕ) → count_by (is_at arc tick) entries ≤ 1

-- entries stand in the order of their records
abbrev pub NumbersRise : List Entry → Type 0
NumbersRise entries = AllPairs (λ one other. one.number < other.number) entries

-- an entry has a lesser place than another: a lesser arc, or a lesser tick of the same one
abbrev pub IsBelow : Entry → Entry → Type 0
IsBelow one other = (one.arc < other.arc) ⊎ ((one.arc ≡ other.arc) × (one.tick < other.tick))

-- entries by rising places, no two at one
abbrev pub PlacesRise : List Entry → Type 0
PlacesRise [] = Unit {0}
PlacesRise (entry ∷ []) = Unit {0}
PlacesRise (entry ∷ next ∷ entries) = IsBelow entry next × PlacesRise (next ∷ entries)

-- what a table holds, as its entries stand
abbrev pub contents_in : Table → Contents
contents_in table = record { scale = table.scale; entries = table.entries.items }

-- a table holds these contents, its entries by rising places
pub record HoldsContents (table : Table) (known : Contents) : Type 0 where
  pub scale : table.scale ≡ known.scale
  pub moved : IsPermutation known.entries table.entries.items
  pub rise : PlacesRise table.entries.items

-- a table holds the contents, or the fault is theirs, unless it is want of memory
abbrev pub Tabulates : Result Table HistFileFault → Result Contents HistFileFault → Type 0
Tabulates (Ok table) (Ok known) = HoldsContents table known
Tabulates (Ok table) (Err fault) = ⊥
Tabulates (Err fault) known = Unless (is_shortage fault) (known ≡ Err fault)
