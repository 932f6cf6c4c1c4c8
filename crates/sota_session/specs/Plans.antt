-- The policy that the planner writes for an ask: the grid over the region, and nothing else.
use Rattle.std.specs.Prelude.{ℕ, ◌≡◌, ◌-◌, nat_lt, map, Option, Some, None, if◌then◌else◌}
use Rattle.std.specs.List.{filter_map, range_with_len}
use Rattle.sota_network.specs.Network.{Net}
use Rattle.sota_network.specs.Grid.{lo}
use Rattle.sota_network.specs.Region.{pairs_at, need}
use Rattle.sota_polfile.specs.Table.{Table}
use Rattle.sota_polfile.specs.declared.row.PolicyRow.{PolicyRow}
use Rattle.sota_check.specs.Certified.{IsCertified, value}
use Rattle.sota_check.specs.Planned.{grid_entry, ask_head}
use Rattle.sota_session.specs.declared.ask.Ask.{Ask}

-- the first budget of node i in the region: its budgets there are one run, which ends below its
-- need
abbrev pub first_budget : Net → Ask → ℕ → ℕ
first_budget net ask i =
    need net ask.origin ask.dest ask.budget i - pairs_at net ask.origin ask.dest ask.budget i

-- for each of these budgets the grid's choice, 0 for none, and its lower value
abbrev pub plan_row : Net → Ask → ℕ → PolicyRow
plan_row net ask i = record {
  node = i;
  first = first_budget net ask i;
  entries = map (grid_entry net ask.dest i) (range_with_len (first_budget net ask i)
      (pairs_at net ask.origin ask.dest ask.budget i));
}

-- no row is without an entry
abbrev pub row_of : Net → Ask → ℕ → Option PolicyRow
row_of net ask i =
    if nat_lt 0 (pairs_at net ask.origin ask.dest ask.budget i) then Some (plan_row net ask i)
    else None

-- the policy of an ask: a row for each node with a pair in the region, in rising nodes
unfoldable pub plan_table : Net → Ask → Table
plan_table net ask = record {
  head = ask_head net ask.origin ask.dest ask.budget;
  rows = filter_map (row_of net ask) (range_with_len 1 net.nodes);
}

-- what a policy is that is made for an ask: it holds on the network, and its value is the answer's
-- lower bound
pub record IsPolicyFor (net : Net) (ask : Ask) (table : Table) : Type 0 where
  pub file : table ≡ plan_table net ask
  pub certified : IsCertified net table
  pub bound : value table ask.origin ask.budget ≡ lo net ask.dest ask.origin ask.budget
