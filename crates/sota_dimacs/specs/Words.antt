-- Faults of a graph text: their printed names and numbers, and which one is none of the text.
use Rattle.std.specs.Prelude.{ℕ, List, Bool, true, false, codes}
use Rattle.sota_dimacs.specs.declared.fault.GraphFault.{GraphFault}
use Rattle.sota_dimacs.specs.declared.fault.GraphFault.TheVariants as faults

-- want of memory has no cause in the text
abbrev pub is_shortage : GraphFault → Bool
is_shortage faults.NoMemory = true
is_shortage _ = false

-- the name of a fault, as replies print it
abbrev pub fault_word : GraphFault → List ℕ
fault_word faults.NoProblem = codes "NoProblem"
fault_word (faults.SecondProblem line) = codes "SecondProblem"
fault_word (faults.BadLine line) = codes "BadLine"
fault_word (faults.NodeRange line) = codes "NodeRange"
fault_word (faults.ArcBeforeProblem line) = codes "ArcBeforeProblem"
fault_word (faults.TooManyArcs line) = codes "TooManyArcs"
fault_word (faults.TooFewArcs found) = codes "TooFewArcs"
fault_word (faults.TooManyNodes nodes) = codes "TooManyNodes"
fault_word (faults.ArcLimit arcs) = codes "ArcLimit"
fault_word faults.NoMemory = codes "NoMemory"

-- the number that a fault carries, 0 where there is none
abbrev pub fault_place : GraphFault → ℕ
fault_place faults.NoProblem = 0
fault_place (faults.SecondProblem line) = line
fault_place (faults.BadLine line) = line
fault_place (faults.NodeRange line) = line
fault_place (faults.ArcBeforeProblem line) = line
fault_place (faults.TooManyArcs line) = line
fault_place (faults.TooFewArcs found) = found
fault_place (faults.TooManyNodes nodes) = nodes
fault_place (faults.ArcLimit arcs) = arcs
fault_place faults.NoMemory = 0
