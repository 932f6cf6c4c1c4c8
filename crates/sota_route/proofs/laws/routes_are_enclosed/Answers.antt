use Rattle.std.proofs.Common.{ℕ, ◌≡◌, ◌*◌, ◌^◌, ◌≤◌, Some, arith}
use Rattle.std.proofs.Math.Nat.{le_of_mul-le-mul_right, one-le-pow}
use Rattle.sota_units.specs.Rounding.{ONE, floor_by}
use Rattle.sota_network.specs.Network.{IsArc, arc_at}
use Rattle.sota_network.specs.Grid.{hi}
use Rattle.sota_network.specs.Trees.{score}
use Rattle.sota_network.specs.declared.network.Arc.{Arc}
use Rattle.sota_route.specs.Routes.{along}
use Rattle.sota_route.specs.Bounds.{route_value}
use Rattle.sota_route.proofs.Along.{Leads, along-fits, along-enclosed}
use Rattle.sota_route.proofs.Legs.{route-leads}
use Rattle.sota_route.proofs.Values.{value-near}
use Rattle.sota_route.proofs.laws.routes_are_enclosed.Goals as goal

pub returns : goal.returns
returns c = λ net dest t o route valid clear start.
    let arcs : (e : ℕ) (arc : Arc) → arc_at net e ≡ Some arc → IsArc net arc = λ e arc is. c.arcs_by_number.ensures net e arc valid is in
    let leads : Leads net dest o route = route-leads net dest o t route clear start in
    let enclosed = along-enclosed c.sums_and_scores.ensures.sums c.sums_and_scores.ensures.rounding c.sums_and_scores.ensures.scores net valid.scale dest arcs route o t leads in
    let near = value-near c.sums_and_scores.ensures.sums c.sums_and_scores.ensures.rounding net valid.scale dest arcs route t in
    let all = c.grid_encloses.ensures.encloses net dest o t valid in
    let most : ONE * score net dest o t (along net route) ≤ hi net dest o t * net.scale ^ t = all.0 (along net route) (along-fits net dest o route leads) in
    let positive : 1 ≤ net.scale ^ t = one-le-pow t net.scale valid.scale in
    record {
      encloses = enclosed;
      order = near.0;
      gap = near.1;
      best = le_of_mul-le-mul_right (let z : route_value floor_by net dest route t * net.scale ^ t ≤ hi net dest o t * net.scale ^ t = omega (arith, enclosed.0, most) in z) (omega (arith, positive));
    }
