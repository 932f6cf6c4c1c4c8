use Rattle.std.proofs.Common.{sym, subst}
use Rattle.sota_network.specs.Network.{Net}
use Rattle.sota_order.specs.Orders.{CanBeMet}
use Rattle.sota_order.proofs.ThreeRoads.{asked, can}
use Rattle.sota_order.proofs.tests.extents_of_three_roads.Goals as goal

pub new-requires : goal.new-requires
new-requires g c = subst (λ (net : Net). CanBeMet net asked) (sym c.in_ok-network.ensures) can
