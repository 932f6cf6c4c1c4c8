-- A small policy on which the definitions are computed.
use Rattle.std.specs.Prelude.{ℕ, [], ◌∷◌}
use Rattle.sota_polfile.specs.Table.{Table}

-- from 1 to 3 in 3 ticks on the triangle, with this value at node 2 and budget 1
abbrev pub triangle_policy : ℕ → Table
triangle_policy units = record {
  head = record { nodes = 3; dest = 3; origin = 1; budget = 3; scale = 4 };
  rows =
      record {
        node = 1;
        first = 2;
        entries =
            record { arc = 1; value = 500000000000000000 }
            ∷ record { arc = 3; value = 750000000000000000 } ∷ [];
      }
      ∷ record {
        node = 2;
        first = 1;
        entries =
            record { arc = 2; value = units }
            ∷ record { arc = 2; value = 500000000000000000 } ∷ [];
      }
      ∷ [];
}
