use Rattle.sota_units.specs.Rounding.{floor_by, ceiling_by}
use Rattle.sota_network.specs.Grid.{lo, hi}
use Rattle.sota_network.proofs.Recursion.{lo-is, hi-is}
use Rattle.sota_network.proofs.Rising.{floor-rises, ceiling-rises, rises}
use Rattle.sota_network.proofs.laws.values_rise.Goals as goal

pub returns : goal.returns
returns c = record {
  lower = λ net dest i t u valid later. rises net valid dest floor_by (lo net dest) (floor-rises net.scale valid.scale) (lo-is net dest valid) i t u later;
  upper = λ net dest i t u valid later. rises net valid dest ceiling_by (hi net dest) (ceiling-rises net.scale valid.scale) (hi-is net dest valid) i t u later;
}
