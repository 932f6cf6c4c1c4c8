use Rattle.std.proofs.Common.{◌≡◌, ◌++◌}
use Rattle.sota_network.specs.Numbers.{listed}
use Rattle.sota_network.specs.Bests.{settled}
use Rattle.sota_network.proofs.plain.push_values.Given as goal

abbrev pub invariant-loop-index : goal.invariant-loop-index
invariant-loop-index l = l.values.items ≡ l.initial.values.items ++ listed (settled l.rounding l.scale l.dest l.bests) l.index
