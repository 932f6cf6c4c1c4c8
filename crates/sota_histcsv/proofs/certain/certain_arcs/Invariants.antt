use Rattle.std.proofs.Common.{suc, ◌≡◌, ◌==◌, take, drop, map}
use Rattle.sota_network.specs.Numbers.{first_number}
use Rattle.sota_histcsv.specs.Certain.{certain_arc, zero_time}
use Rattle.sota_histcsv.proofs.certain.certain_arcs.Given as goal

abbrev pub invariant-loop-index : goal.invariant-loop-index
invariant-loop-index l =
    (l.arcs.items ≡ map certain_arc (take l.index l.raw))
    × (first_number (λ arc. arc.weight == 0) (suc l.index) (drop l.index l.raw) ≡ zero_time l.raw)
