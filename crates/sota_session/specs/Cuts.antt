-- Where the tables are cut for an edit.
use Rattle.std.specs.Prelude.{ℕ, ◌≡◌, ◌⊎◌, List, length, Option, None, Some}
use Rattle.sota_hist.specs.Time.{first_difference, before}
use Rattle.sota_network.specs.Network.{Net, IsNode, arc_at}
use Rattle.sota_network.specs.declared.network.Arc.{Arc}
use Rattle.sota_kept.specs.Ticks.{END_LIMIT, up_to}
use Rattle.sota_kept.specs.Edits.{first_affected}
use Rattle.sota_bounds.specs.Search.{time_at}

-- each node is cut to its first affected budget, since there is a destination and the two times of
-- the arc differ
pub record HasCuts (net : Net) (to : Option ℕ) (edited : Arc) (time : List (ℕ × ℕ))
    (budgets : List (Option ℕ)) : Type 0 where
  pub dest : ℕ
  pub first : ℕ
  pub towards : to ≡ Some dest
  pub differs : first_difference edited.time time ≡ Some first
  pub same : before first edited.time ≡ before first time
  pub count : length budgets ≡ net.nodes
  pub value : (i : ℕ) → IsNode net i
      → up_to END_LIMIT (time_at budgets i) ≡ first_affected net dest edited first i

-- or no node is cut, since there is no destination or no difference
abbrev pub AreCuts : Net → Option ℕ → Arc → List (ℕ × ℕ) → Option (List (Option ℕ)) → Type 0
AreCuts net to edited time None =
    (to ≡ None) ⊎ ((edited.time ≡ time) × (first_difference edited.time time ≡ None))
AreCuts net to edited time (Some budgets) = HasCuts net to edited time budgets

-- the cuts of an edit of this arc
pub record IsCutFor (net : Net) (to : Option ℕ) (number : ℕ) (time : List (ℕ × ℕ))
    (cuts : Option (List (Option ℕ))) : Type 0 where
  pub edited : Arc
  pub found : arc_at net number ≡ Some edited
  pub cuts_are : AreCuts net to edited time cuts
