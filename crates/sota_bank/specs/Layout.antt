-- How the rows of a bank lie in its places.
use Rattle.std.specs.Prelude.{◌≡◌, ℕ, ◌+◌, ◌^◌, ◌<◌, ◌≤◌, List, length, map, take, drop, sum}
use Rattle.std.specs.Prelude.{slice_index_or, Option, Some}
use Rattle.sota_bank.specs.Places.{somes}
use Rattle.sota_bank.specs.Rows.{Row, row_of}
use Rattle.sota_bank.specs.declared.bank.Chunk.{Chunk}

-- where a row lies
abbrev pub chunk_at : List Chunk → ℕ → Chunk
chunk_at es i = slice_index_or es i (record { start = 0; len = 0; cap = 0 })

module _ {X : Type 0} where
  -- the values of a row
  abbrev pub values : List (Option X) → Chunk → List X
  values cs e = somes (take e.len (drop e.start cs))

  -- the rows, as a contract sees them
  abbrev pub rows_in : List Chunk → List (Option X) → List (Row X)
  rows_in es cs = map (λ e. row_of (values cs e) e.cap) es

  -- the places of a row are there, and its list is written
  pub record IsRowIn (cs : List (Option X)) (e : Chunk) : Type 0 where
    pub within : e.len ≤ e.cap
    pub inside : e.start + e.cap ≤ length cs
    pub written : take e.len (drop e.start cs) ≡ map Some (values cs e)

  -- each row lies in the places, and they lie one after another
  pub record IsLaidOut (es : List Chunk) (cs : List (Option X)) : Type 0 where
    pub each : (i : ℕ) → i < length es → IsRowIn cs (chunk_at es i)
    pub apart : (i j : ℕ) → i < j → j < length es
        → (chunk_at es i).start + (chunk_at es i).cap ≤ (chunk_at es j).start
    pub small : length cs ≤ 2 ^ 31

-- one chunk a capacity, each empty, and they lie one after another
pub record AreEmpty (es : List Chunk) (caps : List ℕ) : Type 0 where
  pub caps_are : map (λ e. e.cap) es ≡ caps
  pub empty : (i : ℕ) → i < length es → (chunk_at es i).len ≡ 0
  pub next : (i : ℕ) → i < length es → (chunk_at es i).start ≡ sum (take i caps)
