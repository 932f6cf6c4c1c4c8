-- Asks: why one is refused, and what answers the others.
use Rattle.std.specs.Prelude.{◌≤◌, Option}
use Rattle.sota_units.specs.Limits.{BUDGET_LIMIT}
use Rattle.sota_network.specs.Network.{Net, IsNode}
use Rattle.sota_network.specs.Grid.{lo, hi, choice}
use Rattle.sota_bounds.specs.AskFaults.{first_refusal}
use Rattle.sota_bounds.specs.declared.fault.AskFault.{AskFault}
use Rattle.sota_session.specs.declared.ask.Ask.{Ask}
use Rattle.sota_session.specs.declared.ask.Answer.{Answer}

-- the first cause for which an ask is refused, none where it is answered
abbrev pub ask_fault : Net → Ask → Option AskFault
ask_fault net ask = first_refusal net ask.origin ask.dest ask.budget

-- both ends are nodes, and the budget is one that a grid is asked for
pub record IsInRange (net : Net) (ask : Ask) : Type 0 where
  pub origin : IsNode net ask.origin
  pub dest : IsNode net ask.dest
  pub budget : ask.budget ≤ BUDGET_LIMIT

-- the two bounds of the on-time probability and the arc to take first, by the grid of the network
abbrev pub answer_of : Net → Ask → Answer
answer_of net ask = record {
  lower = lo net ask.dest ask.origin ask.budget;
  upper = hi net ask.dest ask.origin ask.budget;
  next = choice net ask.dest ask.origin ask.budget;
}
