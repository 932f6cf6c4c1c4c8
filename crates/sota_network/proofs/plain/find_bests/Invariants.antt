use Rattle.std.proofs.Common.{◌≡◌, ◌*◌, ◌≤◌, take}
use Rattle.std.specs.List.{All}
use Rattle.sota_units.specs.Rounding.{ONE}
use Rattle.sota_network.specs.declared.network.Arc.{Arc}
use Rattle.sota_network.specs.Bests.{table_sum, bests_of}
use Rattle.sota_network.proofs.plain.find_bests.Given as goal

abbrev pub invariant-loop-index : goal.invariant-loop-index
invariant-loop-index l = record {
  bests : l.bests ≡ bests_of l.nodes (take l.index l.arc-items) (table_sum l.values l.nodes l.budget);
  within : All (λ (arc : Arc). table_sum l.values l.nodes l.budget arc ≤ l.network.scale * ONE) (take l.index l.arc-items);
}
