-- A small network at two hours, on which the definitions are computed.
use Rattle.std.specs.Prelude.{ℕ, List, [], ◌∷◌}
use Rattle.sota_network.specs.Network.{Net, replaced}
use Rattle.sota_network.specs.Examples.{triangle, chain}

-- from tick 8 of the clock on, the second road of the triangle always takes one tick
abbrev pub hours : List (ℕ × Net)
hours = (0, triangle) ∷ (8, replaced triangle 2 ((1, 4) ∷ [])) ∷ []

-- two networks whose masses are over 4 and over 3
abbrev pub two_scales : List (ℕ × Net)
two_scales = (0, triangle) ∷ (8, chain) ∷ []
