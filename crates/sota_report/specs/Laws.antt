-- What the laws say of names and objects, with an example of two places.
use Rattle.std.specs.Prelude.{ℕ, ◌≤◌, Bool, true, ◌&&◌, List, [], ◌∷◌, ◌++◌, is_none, codes}
use Rattle.std.specs.Ordering.{nat_cmp, is_lt}
use Rattle.std.specs.Cmp.Lexicographic.{slice_cmp}
use Rattle.serde_json.specs.Data.{Members, member}
use Rattle.sota_report.specs.Names.{Place, node_of}

-- each key comes before the next one, byte by byte
abbrev pub keys_rise : Members → Bool
keys_rise (member key value (member next other more)) =
    is_lt (slice_cmp nat_cmp key next) && keys_rise (member next other more)
keys_rise _ = true

-- the places of '1 Home', '3 Work' and '1 Depot'
abbrev pub example_places : List Place
example_places = (codes "Home", 1) ∷ (codes "Work", 3) ∷ (codes "Depot", 1) ∷ []

-- no name of these places stands among those before it
abbrev pub are_new : List Place → List Place → Bool
are_new before [] = true
are_new before (place ∷ places) =
    is_none (node_of before place.0) && are_new (before ++ place ∷ []) places

-- a node of a network with so many nodes
abbrev pub IsAtNode : ℕ → Place → Type 0
IsAtNode nodes place = (1 ≤ place.1) × (place.1 ≤ nodes)
