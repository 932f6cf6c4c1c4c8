-- The words for the periods of the clock after the first one.
use Rattle.std.specs.Prelude.{ℕ, ◌-◌, ◌&&◌, Bool, true, nat_lt, List, [], ◌∷◌, Option, Some, None}
use Rattle.std.specs.Prelude.{unwrap_or}
use Rattle.sota_text.specs.Text.{number_of}

-- the pairs '(START HISTS)..'. A START that is no number counts as 0, and so does one without
-- HISTS: no further period may start there
abbrev pub later_of : List (List ℕ) → List (ℕ × List ℕ)
later_of [] = []
later_of (start ∷ []) = (0, []) ∷ []
later_of (start ∷ hists ∷ words) = (unwrap_or (number_of start) 0, hists) ∷ later_of words

-- the first pair, before those of the words that are left
abbrev pub first_pair_of : Option (ℕ × List ℕ × List (List ℕ)) → List (ℕ × List ℕ)
first_pair_of None = []
first_pair_of (Some pair) = (pair.0, pair.1) ∷ later_of pair.2

-- at most so many further periods, each of which starts after the one before
abbrev pub are_later : ℕ → ℕ → List (ℕ × List ℕ) → Bool
are_later room last [] = true
are_later room last (p ∷ ps) =
    nat_lt 0 room && (nat_lt last p.0 && are_later (room - 1) p.0 ps)

-- the most periods after the first one, which starts at tick 0 of the clock
abbrev pub LATER_LIMIT : ℕ
LATER_LIMIT = 31
