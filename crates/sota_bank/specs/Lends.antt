-- What the places end as, once a `&mut` into them has ended.
use Rattle.std.specs.Prelude.{ℕ, List, map, take, drop, Option, Some}
use Rattle.std.specs.Borrow.{Fml, RattleType, MutBor, Array, Lends}
use Rattle.std.specs.List.{refill}
use Rattle.sota_bank.specs.Places.{somes, spliced}
use Rattle.sota_bank.specs.declared.cells.Cells.{Cells}
use Rattle.sota_bank.specs.contracts.cells.Cells.{the_row}

-- the same owner, of other places
abbrev pub with_slots : {X : Type 0} → Cells X → List (Option X) → Cells X
with_slots c cs = record { mark = c.mark; at = c.at; slots = cs }

-- the run has the last values written through r, and the other places stay
abbrev pub lends_run : (R : RattleType) → MutBor (Cells R.Denot) → ℕ → ℕ
    → MutBor (List R.Denot) → Fml
lends_run R c from len r = Lends (the_row R) (Array R 0) c r (λ ws. with_slots c.now
    (spliced c.now.slots from len
    (map Some (refill len (somes (take len (drop from c.now.slots))) ws))))
