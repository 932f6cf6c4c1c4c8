use Rattle.std.proofs.Common.{◌≡◌, ◌++◌}
use Rattle.sota_network.specs.Numbers.{listed}
use Rattle.sota_network.specs.Bests.{chosen}
use Rattle.sota_network.proofs.plain.push_choices.Given as goal

abbrev pub invariant-loop-index : goal.invariant-loop-index
invariant-loop-index l = l.choices.items ≡ l.initial.choices.items ++ listed (chosen l.dest l.bests) l.index
