-- What a contract sees of a bank: its rows, numbered from 0, each a list with a capacity.
use Rattle.std.specs.Prelude.{ℕ, ◌-◌, ◌<◌, ◌≤◌, List, [], ◌++◌, length, map, take, drop}
use Rattle.std.specs.Prelude.{slice_index_or, slice_range, slice_set, refl}
use Rattle.std.specs.List.{refill}
use Rattle.std.specs.Coded.{Coded, code_by, coded×, coded_list, coded_ℕ}

-- the entries that were written, in order, and how many there may be
pub record Row (X : Type 0) : Type 0 where
  pub items : List X
  pub cap : ℕ

module _ {X : Type 0} where
  -- the row with this list and this capacity
  abbrev pub row_of : List X → ℕ → Row X
  row_of xs n = record { items = xs; cap = n }

  -- a row is stored as the pair of its fields
  abbrev pub row_code : Coded X → Coded (Row X)
  row_code c = code_by (List X × ℕ) (coded× (coded_list c) coded_ℕ)
      (λ r. (r.items, r.cap)) (λ p. row_of p.0 p.1) (λ _. refl)

  -- the list of a row. Where there is no such row, which no call asks for, it is empty
  abbrev pub list_at : List (Row X) → ℕ → List X
  list_at rows i = (slice_index_or rows i (row_of [] 0)).items

  -- the capacity of a row
  abbrev pub cap_at : List (Row X) → ℕ → ℕ
  cap_at rows i = (slice_index_or rows i (row_of [] 0)).cap

  -- the same rows, but for the list of one: its capacity stays, and so do the other rows
  abbrev pub with_list : List (Row X) → ℕ → List X → List (Row X)
  with_list rows i xs = slice_set rows i (row_of xs (cap_at rows i))

  -- the lists alone, which `regrow` keeps
  abbrev pub lists : List (Row X) → List (List X)
  lists rows = map (λ r. r.items) rows

  -- the capacities alone, which `regrow` sets
  abbrev pub capacities : List (Row X) → List ℕ
  capacities rows = map (λ r. r.cap) rows

  -- rows of these capacities, each empty
  abbrev pub empty_rows : List ℕ → List (Row X)
  empty_rows caps = map (λ n. row_of [] n) caps

  -- no list is longer than its capacity
  abbrev pub AllWithin : List (Row X) → Type 0
  AllWithin rows = (i : ℕ) → i < length rows → length (list_at rows i) ≤ cap_at rows i

  -- xs, with ws in place of the entries from the index from up to to. `refill` keeps the length for
  -- a ws of any other length, which is never written
  abbrev pub overwritten : List X → ℕ → ℕ → List X → List X
  overwritten xs from to ws =
      take from xs ++ (refill (to - from) (slice_range xs from to) ws ++ drop to xs)
