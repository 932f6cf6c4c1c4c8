-- What is answered of an edit: from which budget on it can change the entries of a node.
use Rattle.std.specs.Prelude.{ℕ, ◌≡◌, List, length, Option, Some}
use Rattle.sota_network.specs.Network.{Net, IsNode, arc_at}
use Rattle.sota_network.specs.Walks.{IsLeastTime}
use Rattle.sota_network.specs.declared.network.Arc.{Arc}
use Rattle.sota_kept.specs.Edits.{first_affected_by}
use Rattle.sota_bounds.specs.Search.{time_at}

-- the first affected budget of node i, none being never: the sum of the least time to the arc's
-- tail, the least tick at which its times differ, and the least time from its head on
pub record IsFirstAffected (net : Net) (dest : ℕ) (arc : Arc) (first i : ℕ) (found : Option ℕ)
    : Type 0 where
  pub to : Option ℕ
  pub onward : Option ℕ
  pub least_to_tail : IsLeastTime net dest i arc.tail to
  pub least_onward : IsLeastTime net dest arc.head dest onward
  pub sum : found ≡ first_affected_by dest arc first i to onward

-- the first affected budgets of all nodes, where the arc of this number gets another time
pub record AreFirstAffected (net : Net) (dest number first : ℕ) (budgets : List (Option ℕ))
    : Type 0 where
  pub nodes : length budgets ≡ net.nodes
  pub value : (i : ℕ) (edited : Arc) → IsNode net i → arc_at net number ≡ Some edited
      → IsFirstAffected net dest edited first i (time_at budgets i)
