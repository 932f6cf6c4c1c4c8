-- The printed words of faults, and the numbers that stand beside them.
use Rattle.std.specs.Prelude.{ℕ, Bool, true, false, List, codes}
use Rattle.sota_histcsv.specs.declared.fault.HistFileFault.{HistFileFault}
use Rattle.sota_histcsv.specs.declared.fault.HistFileFault.TheVariants.{Header, Fields, Number}
use Rattle.sota_histcsv.specs.declared.fault.HistFileFault.TheVariants.{NoArc, ZeroTick}
use Rattle.sota_histcsv.specs.declared.fault.HistFileFault.TheVariants.{RepeatedTick, Sum}
use Rattle.sota_histcsv.specs.declared.fault.HistFileFault.TheVariants.{ZeroTime, NoMemory}

-- the name of a fault, as replies print it
abbrev pub fault_word : HistFileFault → List ℕ
fault_word Header = codes "Header"
fault_word (Fields number) = codes "Fields"
fault_word (Number number) = codes "Number"
fault_word (NoArc number) = codes "NoArc"
fault_word (ZeroTick number) = codes "ZeroTick"
fault_word (RepeatedTick number) = codes "RepeatedTick"
fault_word (Sum arc) = codes "Sum"
fault_word (ZeroTime arc) = codes "ZeroTime"
fault_word NoMemory = codes "NoMemory"

-- the record or arc that a fault names, 0 where it names none
abbrev pub fault_place : HistFileFault → ℕ
fault_place Header = 0
fault_place (Fields number) = number
fault_place (Number number) = number
fault_place (NoArc number) = number
fault_place (ZeroTick number) = number
fault_place (RepeatedTick number) = number
fault_place (Sum arc) = arc
fault_place (ZeroTime arc) = arc
fault_place NoMemory = 0

-- want of memory has no cause in a text
abbrev pub is_shortage : HistFileFault → Bool
is_shortage NoMemory = true
is_shortage _ = false
