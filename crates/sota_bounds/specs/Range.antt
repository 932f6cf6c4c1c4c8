-- Which number of an ask is out of range.
use Rattle.std.specs.Prelude.{ℕ, nat_le, Option, Some, None, if◌then◌else◌}
use Rattle.sota_units.specs.Ids.{is_node_number}
use Rattle.sota_units.specs.Limits.{BUDGET_LIMIT}
use Rattle.sota_network.specs.Network.{Net}
use Rattle.sota_bounds.specs.declared.range.RangeFault.{RangeFault}
use Rattle.sota_bounds.specs.declared.range.RangeFault.TheVariants.{NoOrigin, NoDest, Budget}

-- the first number of an ask that is out of range, none where all are in it
abbrev pub range_fault : Net → ℕ → ℕ → ℕ → Option RangeFault
range_fault net origin dest budget =
    if is_node_number net.nodes origin then
    (if is_node_number net.nodes dest then
    (if nat_le budget BUDGET_LIMIT then None else Some Budget)
    else Some NoDest)
    else Some NoOrigin
