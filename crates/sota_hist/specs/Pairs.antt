-- The pairs of a histogram, however they are kept.
use Rattle.std.specs.Prelude.{ℕ, List, [], ◌∷◌}
use Rattle.sota_hist.specs.declared.pairs.Pairs.{Pairs}
use Rattle.sota_hist.specs.declared.pairs.Pairs.TheVariants.{Closed, One, Many}

-- the pairs in order
abbrev pub pairs_in : Pairs → List (ℕ × ℕ)
pairs_in Closed = []
pairs_in (One pair) = pair ∷ []
pairs_in (Many pairs) = pairs.value.items
