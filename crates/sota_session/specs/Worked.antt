-- Sessions of the triangle, step by step: what its first ask of 9 ticks leaves, and edits of it.
use Rattle.std.specs.Prelude.{ℕ, List, [], ◌∷◌, Some}
use Rattle.sota_network.specs.Network.{Net, replaced}
use Rattle.sota_network.specs.Examples.{triangle}
use Rattle.sota_kept.specs.States.{State}
use Rattle.sota_session.specs.declared.ask.Ask.{Ask}

-- an ask from node 1 to node 3
abbrev pub within_ticks : ℕ → Ask
within_ticks budget = record { origin = 1; dest = 3; budget = budget }

-- the state with these fronts of nodes 1 and 2
abbrev pub with_fronts : ℕ → ℕ → State
with_fronts one two =
    record { dest = Some 3; fronts = one ∷ two ∷ 0 ∷ []; bases = 2 ∷ 1 ∷ 0 ∷ [] }

-- the second arc is certain, the third one later, or closed
abbrev pub certain : List (ℕ × ℕ)
certain = (1, 4) ∷ []

abbrev pub later : List (ℕ × ℕ)
later = (3, 3) ∷ (6, 1) ∷ []

abbrev pub surer : Net
surer = replaced triangle 2 certain

abbrev pub slower : Net
slower = replaced triangle 3 later

abbrev pub barred : Net
barred = replaced triangle 3 []
