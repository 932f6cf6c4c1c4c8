-- Sums over pairs of a tick and a mass.
use Rattle.std.specs.Prelude.{ℕ, ◌-◌, ◌*◌, List, slice_index}
use Rattle.std.specs.List.{sum_by}

-- the sum of each mass times the value that stands as many places before as its tick says
abbrev pub pairs_sum : List ℕ → ℕ → List (ℕ × ℕ) → ℕ
pairs_sum values place pairs = sum_by (λ p. p.1 * slice_index values (place - p.0)) pairs

-- the sum of the masses
abbrev pub pairs_mass : List (ℕ × ℕ) → ℕ
pairs_mass pairs = sum_by (λ p. p.1) pairs
