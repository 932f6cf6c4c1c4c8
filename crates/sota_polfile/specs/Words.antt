-- Faults of a policy file: their printed names and numbers.
use Rattle.std.specs.Prelude.{ℕ, Bool, true, false, List, codes}
use Rattle.sota_polfile.specs.declared.fault.PolicyFault.{PolicyFault}
use Rattle.sota_polfile.specs.declared.fault.PolicyFault.TheVariants as faults

-- the name of a fault, as replies print it
abbrev pub fault_word : PolicyFault → List ℕ
fault_word faults.Magic = codes "Magic"
fault_word (faults.Truncated offset) = codes "Truncated"
fault_word (faults.Order row) = codes "Order"
fault_word (faults.Range row) = codes "Range"
fault_word (faults.Trailing offset) = codes "Trailing"
fault_word faults.NoMemory = codes "NoMemory"

-- the number that a fault carries, 0 where there is none
abbrev pub fault_place : PolicyFault → ℕ
fault_place faults.Magic = 0
fault_place (faults.Truncated offset) = offset
fault_place (faults.Order row) = row
fault_place (faults.Range row) = row
fault_place (faults.Trailing offset) = offset
fault_place faults.NoMemory = 0

-- want of memory has no cause in the bytes
abbrev pub is_shortage : PolicyFault → Bool
is_shortage faults.NoMemory = true
is_shortage fault = false
