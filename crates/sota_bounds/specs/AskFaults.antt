-- Why an ask is refused: its causes, their printed words, and the counts that stand with them.
use Rattle.std.specs.Prelude.{ℕ, Bool, true, false, List, codes, Option, Some, None}
use Rattle.std.specs.Option.{option_map, option_or}
use Rattle.sota_network.specs.Network.{Net}
use Rattle.sota_bounds.specs.Range.{range_fault}
use Rattle.sota_bounds.specs.Faults.{region_fault}
use Rattle.sota_bounds.specs.declared.range.RangeFault.{RangeFault}
use Rattle.sota_bounds.specs.declared.range.RangeFault.TheVariants as ranges
use Rattle.sota_bounds.specs.declared.fault.RegionFault.{RegionFault}
use Rattle.sota_bounds.specs.declared.fault.RegionFault.TheVariants as regions
use Rattle.sota_bounds.specs.declared.fault.AskFault.{AskFault}
use Rattle.sota_bounds.specs.declared.fault.AskFault.TheVariants as asks

-- a number that is out of range
abbrev pub range_cause : RangeFault → AskFault
range_cause ranges.NoOrigin = asks.NoOrigin
range_cause ranges.NoDest = asks.NoDest
range_cause ranges.Budget = asks.Budget

-- the first number that is, none where all are in range
abbrev pub range_refusal : Net → ℕ → ℕ → ℕ → Option AskFault
range_refusal net origin dest budget =
    option_map range_cause (range_fault net origin dest budget)

-- a region that is too large is one that cannot be planned for
abbrev pub size_cause : RegionFault → AskFault
size_cause (regions.TableCells count) = asks.TableCells count
size_cause (regions.BroadCells count) = asks.BroadCells count
size_cause regions.NoMemory = asks.NoMemory

abbrev pub size_refusal : Net → ℕ → ℕ → ℕ → Option AskFault
size_refusal net origin dest budget =
    option_map size_cause (region_fault net origin dest budget)

-- the first cause for which an ask is refused, none where it is answered
abbrev pub first_refusal : Net → ℕ → ℕ → ℕ → Option AskFault
first_refusal net origin dest budget =
    option_or (range_refusal net origin dest budget) (size_refusal net origin dest budget)

-- want of memory has no cause in what was handed in
abbrev pub is_shortage : AskFault → Bool
is_shortage asks.NoMemory = true
is_shortage _ = false

-- the name of a fault, as replies print it
abbrev pub ask_word : AskFault → List ℕ
ask_word asks.NoOrigin = codes "NoOrigin"
ask_word asks.NoDest = codes "NoDest"
ask_word asks.Budget = codes "Budget"
ask_word (asks.TableCells count) = codes "TableCells"
ask_word (asks.BroadCells count) = codes "BroadCells"
ask_word asks.NoMemory = codes "NoMemory"

-- the count that exceeds a limit of size, where the fault is one of the two that have one
abbrev pub ask_count : AskFault → Option ℕ
ask_count (asks.TableCells count) = Some count
ask_count (asks.BroadCells count) = Some count
ask_count _ = None
