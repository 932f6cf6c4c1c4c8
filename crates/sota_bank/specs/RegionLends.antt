-- What a region ends as, once a `&mut` into it has ended.
use Rattle.std.specs.Prelude.{ℕ, List, map, take, drop, Option, Some}
use Rattle.std.specs.Borrow.{Fml, RattleType, MutBor, Array, Lends}
use Rattle.std.specs.List.{refill}
use Rattle.sota_bank.specs.Places.{somes, spliced}
use Rattle.sota_bank.specs.contracts.region.Region.{the_row}

-- the part has the last values written through r, and the other places stay
abbrev pub lends_part : (R : RattleType) → MutBor (List (Option R.Denot)) → ℕ → ℕ
    → MutBor (List R.Denot) → Fml
lends_part R c from len r = Lends (the_row R) (Array R 0) c r (λ ws.
    spliced c.now from len (map Some (refill len (somes (take len (drop from c.now))) ws)))
