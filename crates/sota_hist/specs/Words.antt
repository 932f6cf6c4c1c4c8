-- The printed words of faults.
use Rattle.std.specs.Prelude.{ℕ, List, codes}
use Rattle.sota_hist.specs.declared.fault.HistFault.{HistFault}
use Rattle.sota_hist.specs.declared.fault.HistFault.TheVariants.{ZeroTick, RepeatedTick, Sum}
use Rattle.sota_hist.specs.declared.fault.HistFault.TheVariants.{NoMemory}

-- the name of a fault, as replies print it
abbrev pub fault_word : HistFault → List ℕ
fault_word (ZeroTick place) = codes "ZeroTick"
fault_word (RepeatedTick tick) = codes "RepeatedTick"
fault_word (Sum sum) = codes "Sum"
fault_word NoMemory = codes "NoMemory"
