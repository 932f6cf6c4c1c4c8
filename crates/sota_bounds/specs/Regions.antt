-- What a region that was made holds.
use Rattle.std.specs.Prelude.{ℕ, ◌≡◌, ◌+◌, ◌≤◌, All, List, length, Option, IfSome}
use Rattle.sota_network.specs.Network.{Net, IsNode}
use Rattle.sota_network.specs.Numbers.{listed}
use Rattle.sota_network.specs.Walks.{IsLeastTime}
use Rattle.sota_network.specs.Region as region
use Rattle.sota_bounds.specs.Search.{TIME_LIMIT, time_at}
use Rattle.sota_bounds.specs.Cells.{pairs_by_lists}
use Rattle.sota_bounds.specs.declared.ask.AskRegion.{AskRegion}
use Rattle.sota_bounds.specs.declared.ask.AskNeeds.{AskNeeds}

-- the region of this ask: its numbers, each node's least time to the destination and need, between
-- which its pairs are, and the two counts
pub record IsRegion (made : AskRegion) (net : Net) (origin dest budget : ℕ) : Type 0 where
  pub asked : (made.origin ≡ origin) × (made.dest ≡ dest) × (made.budget ≡ budget)
  pub nodes : length made.least ≡ net.nodes
  pub least : (i : ℕ) → IsNode net i → IsLeastTime net dest i dest (time_at made.least i)
  pub need : made.need ≡ listed (region.need net origin dest budget) net.nodes
  pub within : All (λ need. need ≤ budget + 1) made.need
  pub pairs : (i : ℕ) → IsNode net i → region.pairs_at net origin dest budget i
      ≡ pairs_by_lists made.least made.need i
  pub table_cells : made.table_cells ≡ region.table_cells net origin dest budget
  pub broad_cells : made.broad_cells ≡ region.broad_cells net origin dest budget

-- the least times from all nodes to a destination
pub record AreLeastTo (net : Net) (dest : ℕ) (times : List (Option ℕ)) : Type 0 where
  pub nodes : length times ≡ net.nodes
  pub least : (i : ℕ) → IsNode net i → IsLeastTime net dest i dest (time_at times i)
  pub within : All (λ time. IfSome time (λ n. n ≤ TIME_LIMIT)) times

-- what the region of this ask is besides these least times
pub record AreNeeds (made : AskNeeds) (net : Net) (least : List (Option ℕ))
    (origin dest budget : ℕ) : Type 0 where
  pub asked : (made.origin ≡ origin) × (made.dest ≡ dest) × (made.budget ≡ budget)
  pub need : made.need ≡ listed (region.need net origin dest budget) net.nodes
  pub within : All (λ need. need ≤ budget + 1) made.need
  pub pairs : (i : ℕ) → IsNode net i → region.pairs_at net origin dest budget i
      ≡ pairs_by_lists least made.need i
  pub table_cells : made.table_cells ≡ region.table_cells net origin dest budget
  pub broad_cells : made.broad_cells ≡ region.broad_cells net origin dest budget
