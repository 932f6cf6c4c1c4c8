-- When the region of an ask is too large to plan for.
use Rattle.std.specs.Prelude.{ℕ, ◌≤◌, nat_lt, Bool, true, false, Option, None, Some, if◌then◌else◌}
use Rattle.sota_network.specs.Network.{Net}
use Rattle.sota_network.specs.Region.{table_cells, broad_cells}
use Rattle.sota_bounds.specs.declared.fault.RegionFault.{RegionFault}
use Rattle.sota_bounds.specs.declared.fault.RegionFault.TheVariants.{TableCells, BroadCells}
use Rattle.sota_bounds.specs.declared.fault.RegionFault.TheVariants.{NoMemory}

-- the most table cells and broad cells that are planned for
abbrev pub TABLE_LIMIT : ℕ
TABLE_LIMIT = 60000000

abbrev pub BROAD_LIMIT : ℕ
BROAD_LIMIT = 40000000

-- so many table cells and broad cells are planned for
abbrev pub AreWithinLimits : ℕ → ℕ → Type 0
AreWithinLimits table broad = (table ≤ TABLE_LIMIT) × (broad ≤ BROAD_LIMIT)

-- by these counts
abbrev pub cells_fault : ℕ → ℕ → Option RegionFault
cells_fault table broad =
    if nat_lt TABLE_LIMIT table then Some (TableCells table) else
    if nat_lt BROAD_LIMIT broad then Some (BroadCells broad) else None

-- too many table cells, or else too many broad cells
abbrev pub region_fault : Net → ℕ → ℕ → ℕ → Option RegionFault
region_fault net origin dest budget =
    cells_fault (table_cells net origin dest budget) (broad_cells net origin dest budget)

-- want of memory has no cause in the network
abbrev pub is_shortage : RegionFault → Bool
is_shortage NoMemory = true
is_shortage _ = false
