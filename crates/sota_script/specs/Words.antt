-- Faults of a line: their printed names, and which one is none of the line.
use Rattle.std.specs.Prelude.{ℕ, List, Bool, true, false, codes}
use Rattle.sota_script.specs.declared.fault.LineFault.{LineFault}
use Rattle.sota_script.specs.declared.fault.LineFault.TheVariants as faults

-- want of memory has no cause in the line
abbrev pub is_shortage : LineFault → Bool
is_shortage faults.NoMemory = true
is_shortage _ = false

-- the name of a fault, as replies print it
abbrev pub fault_word : LineFault → List ℕ
fault_word faults.Word = codes "Word"
fault_word faults.Count = codes "Count"
fault_word faults.Number = codes "Number"
fault_word faults.Name = codes "Name"
fault_word faults.NoMemory = codes "NoMemory"
