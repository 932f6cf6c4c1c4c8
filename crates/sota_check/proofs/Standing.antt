-- What stands in a bracket table, by node and budget.
use Rattle.std.proofs.Common.{ℕ, zero, suc, ◌≡◌, ◌≢◌, ◌+◌, ◌-◌, ◌<◌, ◌≤◌, min, List, length, Option, Some, None, slice_get, inl, inr, refl, sym, ◌∙◌, ap, arith, ⊎_elim, option_and_then}
use Rattle.std.specs.Option.{option_map_or}
use Rattle.std.proofs.lemmas.Bool.{eq-eqb, ne_eqb, cases_eq, cases_lt, lt-leb, lt-ltb, le-ltb, le-leb}
use Rattle.std.proofs.lemmas.Option.{slice_get_cases, slice_get_within}
use Rattle.sota_units.specs.Rounding.{ONE}
use Rattle.sota_polfile.specs.Table.{entry_from}
use Rattle.sota_polfile.specs.Bracket.{Bracket, IsBracket, IsBracketRow, bracket_row_of, bracket_entry_of}
use Rattle.sota_polfile.specs.declared.bracket_entry.BracketEntry.{BracketEntry}
use Rattle.sota_polfile.specs.declared.bracket_row.BracketRow.{BracketRow}
use Rattle.sota_check.specs.Bracketed.{first_at, row_upper, upper}

-- each node has a row
pub row-there : (table : Bracket) (i : ℕ) → length table.rows ≡ table.head.nodes → 1 ≤ i → i ≤ table.head.nodes → (row : BracketRow) × (bracket_row_of table i ≡ Some row)
row-there table zero size some within = absurd (omega arith)
row-there table (suc k) size some within = elim (slice_get_cases table.rows k).1 [ inl here ↦ (here.0, here.2) | inr past ↦ absurd (omega (arith, past.0, size)) ]

pub row-valid : (table : Bracket) → IsBracket table → (i : ℕ) (row : BracketRow) → bracket_row_of table i ≡ Some row → IsBracketRow table.head i row
row-valid table is zero row at = absurd (cc)
row-valid table is (suc k) row at = let number : k + 1 ≡ suc k = omega arith in rw number at (is.rows k row at)

pub row-number : (table : Bracket) (i : ℕ) (row : BracketRow) → bracket_row_of table i ≡ Some row → (1 ≤ i) × (i ≤ length table.rows)
row-number table zero row at = absurd (cc)
row-number table (suc k) row at = (omega arith, omega (arith, slice_get_within table.rows k row at))

module _ (table : Bracket) (i t : ℕ) (row : BracketRow) (at : bracket_row_of table i ≡ Some row) where
  pub entry-is : bracket_entry_of table i t ≡ entry_from row.first row.entries t
  entry-is = ap (λ (o : Option BracketRow). option_and_then (λ r. entry_from r.first r.entries t) o) at

  pub first-is : first_at table i ≡ row.first
  first-is = ap (λ (o : Option BracketRow). option_map_or (λ r. r.first) o 0) at

  pub upper-is : i ≢ table.head.dest → upper table i t ≡ row_upper row t
  upper-is off = rw (ne_eqb i table.head.dest off) (ap (λ (o : Option BracketRow). option_map_or (λ r. row_upper r t) o ONE) at)

-- an entry stands in the row of its node
pub entry-row : (table : Bracket) (i t : ℕ) (entry : BracketEntry) → bracket_entry_of table i t ≡ Some entry → (row : BracketRow) × (bracket_row_of table i ≡ Some row) × (entry_from row.first row.entries t ≡ Some entry)
entry-row table i t entry at = by (bracket_row_of table i) refl
  where
    by : (o : Option BracketRow) → bracket_row_of table i ≡ o → (row : BracketRow) × (bracket_row_of table i ≡ Some row) × (entry_from row.first row.entries t ≡ Some entry)
    by None none = absurd (let gone : bracket_entry_of table i t ≡ None = ap (λ (o : Option BracketRow). option_and_then (λ r. entry_from r.first r.entries t) o) none in cc)
    by (Some row) some = (row, some, sym (entry-is table i t row some) ∙ at)

-- an entry of a row has its place
pub entry-place : {Entry : Type 0} (first : ℕ) (entries : List Entry) (t : ℕ) (entry : Entry) → entry_from first entries t ≡ Some entry → (first ≤ t) × (slice_get entries (t - first) ≡ Some entry)
entry-place first entries t entry at =
    ⊎_elim
    (λ (early : t < first). absurd (let none : entry_from first entries t ≡ None = rw (lt-leb first t early) refl in cc))
    (λ (late : first ≤ t). (late, rw (le-leb first t late) at at))
    (cases_lt t first)

pub place-entry : {Entry : Type 0} (first j : ℕ) (entries : List Entry) (entry : Entry) → slice_get entries j ≡ Some entry → entry_from first entries (first + j) ≡ Some entry
place-entry first j entries entry at =
    let here : first + j - first ≡ j = omega arith in
    rw (le-leb first (first + j) (omega arith), here) at

module _ (row : BracketRow) (t : ℕ) where
  pub upper-below : t < row.first → row_upper row t ≡ 0
  upper-below early = rw (lt-ltb t row.first early) refl

  pub upper-by : row.first ≤ t → (o : Option BracketEntry) → entry_from row.first row.entries t ≡ o → row_upper row t ≡ option_map_or (λ entry. min ONE entry.upper) o ONE
  upper-by late o is = rw (le-ltb t row.first late) (ap (λ (found : Option BracketEntry). option_map_or (λ entry. min ONE entry.upper) found ONE) is)

  pub row-whole : row_upper row t ≤ ONE
  row-whole =
      ⊎_elim
      (λ (early : t < row.first). omega (arith, upper-below early))
      (λ (late : row.first ≤ t). by late (entry_from row.first row.entries t) refl)
      (cases_lt t row.first)
    where
      by : row.first ≤ t → (o : Option BracketEntry) → entry_from row.first row.entries t ≡ o → row_upper row t ≤ ONE
      by late None is = omega (arith, upper-by late None is)
      by late (Some entry) is = omega (arith, upper-by late (Some entry) is)

-- no upper value is more than one whole
pub upper-whole : (table : Bracket) (i t : ℕ) → upper table i t ≤ ONE
upper-whole table i t =
    ⊎_elim
    (λ (at : i ≡ table.head.dest). let is : upper table i t ≡ ONE = rw (eq-eqb i table.head.dest at) refl in omega (arith, is))
    (λ (off : i ≡ table.head.dest → ⊥). by off (bracket_row_of table i) refl)
    (cases_eq i table.head.dest)
  where
    by : (i ≡ table.head.dest → ⊥) → (o : Option BracketRow) → bracket_row_of table i ≡ o → upper table i t ≤ ONE
    by off None none = let is : upper table i t ≡ ONE = rw (ne_eqb i table.head.dest off) (ap (λ (o : Option BracketRow). option_map_or (λ r. row_upper r t) o ONE) none) in omega (arith, is)
    by off (Some row) some = omega (arith, upper-is table i t row some off, row-whole row t)

pub upper-dest : (table : Bracket) (i t : ℕ) → i ≡ table.head.dest → upper table i t ≡ ONE
upper-dest table i t at = rw (eq-eqb i table.head.dest at) refl

-- the row that stands at the place of a node
pub row-read : (table : Bracket) (i : ℕ) (row : BracketRow) → 1 ≤ i → slice_get table.rows (i - 1) ≡ Some row → bracket_row_of table i ≡ Some row
row-read table zero row some at = absurd (omega arith)
row-read table (suc k) row some at = let place : suc k - 1 ≡ k = omega arith in rw place at at

-- the node of an entry is not the destination, and its upper value is the entry's
pub entry-upper : (table : Bracket) → IsBracket table → (i t : ℕ) (entry : BracketEntry) → bracket_entry_of table i t ≡ Some entry → upper table i t ≡ min ONE entry.upper
entry-upper table is i t entry at =
    let stands = entry-row table i t entry at in
    let row : BracketRow = stands.0 in
    let place = entry-place row.first row.entries t entry stands.2 in
    let inside = slice_get_within row.entries (t - row.first) entry place.1 in
    ⊎_elim
    (λ (here : i ≡ table.head.dest). absurd (omega (arith, inside, ((row-valid table is i row stands.1).numbers.dest here).1)))
    (λ (off : i ≡ table.head.dest → ⊥). upper-is table i t row stands.1 off ∙ upper-by row t place.0 (Some entry) stands.2)
    (cases_eq i table.head.dest)
