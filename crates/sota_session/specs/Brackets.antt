-- The bracket that the planner writes for an ask: the grid over the region, with both values of
-- each entry, and the least times to the destination.
use Rattle.std.specs.Prelude.{ℕ, ◌≡◌, map}
use Rattle.std.specs.List.{range_with_len}
use Rattle.sota_network.specs.Network.{Net}
use Rattle.sota_network.specs.Grid.{lo, hi}
use Rattle.sota_network.specs.Region.{pairs_at}
use Rattle.sota_kept.specs.Ticks.{least_to}
use Rattle.sota_polfile.specs.Bracket.{Bracket}
use Rattle.sota_polfile.specs.declared.bracket_row.BracketRow.{BracketRow}
use Rattle.sota_check.specs.Bracketed.{IsBracketed, lower, upper}
use Rattle.sota_check.specs.Planned.{ask_head}
use Rattle.sota_check.specs.PlannedBracket.{grid_bracket}
use Rattle.sota_session.specs.declared.ask.Ask.{Ask}

-- the first budget of node i is its least time to the destination, 65,536 where that is no less.
-- Its budgets in the region, if it has any, begin there, and for each of them it has the grid's
-- choice, 0 for none, and both values
abbrev pub bracket_row : Net → Ask → ℕ → BracketRow
bracket_row net ask i = record {
  first = least_to net ask.dest i;
  entries = map (grid_bracket net ask.dest i) (range_with_len (least_to net ask.dest i)
      (pairs_at net ask.origin ask.dest ask.budget i));
}

-- the bracket of an ask: a row for each node
unfoldable pub plan_bracket : Net → Ask → Bracket
plan_bracket net ask = record {
  head = ask_head net ask.origin ask.dest ask.budget;
  rows = map (bracket_row net ask) (range_with_len 1 net.nodes);
}

-- what a bracket is that is made for an ask: it holds on the network, and the bounds that it names
-- are those of the answer
pub record IsBracketFor (net : Net) (ask : Ask) (table : Bracket) : Type 0 where
  pub file : table ≡ plan_bracket net ask
  pub bracketed : IsBracketed net table
  pub bounds : (lower table ask.origin ask.budget ≡ lo net ask.dest ask.origin ask.budget)
      × (upper table ask.origin ask.budget ≡ hi net ask.dest ask.origin ask.budget)
