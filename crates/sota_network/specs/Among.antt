-- The arcs that leave a node, looked at one after the other.
use Rattle.std.specs.Prelude.{ℕ, ◌≡◌, ◌+◌, ◌<◌, ◌≤◌, max, ◌==◌, nat_lt, List, [], ◌∷◌, length, take}
use Rattle.std.specs.Prelude.{slice_index_or, Option, None, Some, if◌then◌else◌}
use Rattle.sota_network.specs.Network.{Net, arc_at}
use Rattle.sota_network.specs.Numbers.{numbers}
use Rattle.sota_network.specs.Grid.{best_of, choice_of}
use Rattle.sota_network.specs.declared.network.Arc.{Arc}

-- the numbers of the arcs that leave a node
abbrev pub leaving_numbers : Net → ℕ → List ℕ
leaving_numbers net node = numbers (λ (arc : Arc). arc.tail == node) 1 net.arcs

-- the greatest worth of some numbers, and the first of them that has it, none where that is 0
abbrev pub best_among : (ℕ → ℕ) → List ℕ → ℕ
best_among worth [] = 0
best_among worth (e ∷ es) = max (worth e) (best_among worth es)

abbrev pub first_among : (ℕ → ℕ) → ℕ → List ℕ → Option ℕ
first_among worth best [] = None
first_among worth best (e ∷ es) = if worth e == best then Some e else first_among worth best es

abbrev pub choice_among : (ℕ → ℕ) → List ℕ → Option ℕ
choice_among worth es =
    if best_among worth es == 0 then None else first_among worth (best_among worth es) es

-- the worth of the arc of a number
abbrev pub worth_of : Option Arc → (Arc → ℕ) → ℕ
worth_of None worth = 0
worth_of (Some arc) worth = worth arc

abbrev pub numbered_worth : Net → (Arc → ℕ) → ℕ → ℕ
numbered_worth net worth e = worth_of (arc_at net e) worth

-- What one more of them, number e at place k, does to the greatest worth and to the choice, and
-- that after all of them these are the node's. `arcs_one_by_one` says so.
pub record AmongLaws : Type 0 where
  pub best_step : (worth : ℕ → ℕ) (es : List ℕ) (k e old sum new : ℕ) → k < length es
      → e ≡ slice_index_or es k e → old ≡ best_among worth (take k es) → sum ≡ worth e
      → new ≡ max old sum → new ≡ best_among worth (take (k + 1) es)
  pub choice_step : (worth : ℕ → ℕ) (es : List ℕ) (k e old sum : ℕ) (was new : Option ℕ)
      → k < length es → e ≡ slice_index_or es k e → old ≡ best_among worth (take k es)
      → sum ≡ worth e → was ≡ choice_among worth (take k es)
      → new ≡ (if nat_lt old sum then Some e else was)
      → new ≡ choice_among worth (take (k + 1) es)
  pub best_end : (net : Net) (worth : Arc → ℕ) (node : ℕ) (es : List ℕ) (k : ℕ)
      → es ≡ leaving_numbers net node → length es ≤ k
      → best_among (numbered_worth net worth) (take k es) ≡ best_of net.arcs worth node
  pub choice_end : (net : Net) (worth : Arc → ℕ) (node : ℕ) (es : List ℕ) (k : ℕ)
      → es ≡ leaving_numbers net node → length es ≤ k
      → choice_among (numbered_worth net worth) (take k es) ≡ choice_of net.arcs worth node
  pub number : (net : Net) (worth : Arc → ℕ) (e : ℕ) (arc : Arc) → arc_at net e ≡ Some arc
      → worth arc ≡ numbered_worth net worth e
  pub leaving : (net : Net) (node k e : ℕ) (es : List ℕ) → es ≡ leaving_numbers net node
      → k < length es → e ≡ slice_index_or es k e
      → (arc : Arc) × (arc_at net e ≡ Some arc) × (arc.tail ≡ node)
