-- Faults of names: their printed words and lines, and which ones are none of the text.
use Rattle.std.specs.Prelude.{ℕ, List, Bool, true, false, codes}
use Rattle.sota_report.specs.declared.fault.NamesFault.{NamesFault}
use Rattle.sota_report.specs.declared.fault.NamesFault.TheVariants as faults
use Rattle.sota_report.specs.declared.fault.ResolveFault.{ResolveFault}
use Rattle.sota_report.specs.declared.fault.ResolveFault.TheVariants as places

-- want of memory has no cause in the text
abbrev pub is_shortage : NamesFault → Bool
is_shortage faults.NoMemory = true
is_shortage _ = false

-- the name of a fault, as replies print it
abbrev pub fault_word : NamesFault → List ℕ
fault_word (faults.Fields line) = codes "Fields"
fault_word (faults.Number line) = codes "Number"
fault_word (faults.NodeRange line) = codes "NodeRange"
fault_word (faults.NotText line) = codes "NotText"
fault_word (faults.RepeatedName line) = codes "RepeatedName"
fault_word faults.NoMemory = codes "NoMemory"

-- the line that a fault carries, 0 where there is none
abbrev pub fault_place : NamesFault → ℕ
fault_place (faults.Fields line) = line
fault_place (faults.Number line) = line
fault_place (faults.NodeRange line) = line
fault_place (faults.NotText line) = line
fault_place (faults.RepeatedName line) = line
fault_place faults.NoMemory = 0

-- want of memory has no cause in the line
abbrev pub is_unresolved_shortage : ResolveFault → Bool
is_unresolved_shortage places.NoMemory = true
is_unresolved_shortage places.Place = false

-- the name of a fault of a line, as replies print it
abbrev pub unresolved_word : ResolveFault → List ℕ
unresolved_word places.Place = codes "Place"
unresolved_word places.NoMemory = codes "NoMemory"
