-- The two bounds of a route, from its last arc backwards.
use Rattle.std.specs.Prelude.{ℕ, ◌==◌, List, [], ◌∷◌, None, Some, if◌then◌else◌}
use Rattle.std.specs.Prelude.{◌+◌, ◌≤◌, length, Result, Ok, Err}
use Rattle.sota_units.specs.Rounding.{ONE, floor_by, ceiling_by}
use Rattle.sota_network.specs.Network.{Net, arc_at}
use Rattle.sota_network.specs.Grid.{weighed, hi}
use Rattle.sota_network.specs.declared.network.Arc.{Arc}
use Rattle.sota_route.specs.Faults.{route_fault}
use Rattle.sota_route.specs.Routes.{EnclosesRoute}
use Rattle.sota_route.specs.declared.bracket.RouteAnswer.{RouteAnswer}
use Rattle.sota_route.specs.declared.fault.RouteFault.{RouteFault}

-- the value before an arc at budget t, where `after` has the values after it: who stands at the
-- destination has arrived
abbrev pub value_before : (ℕ → ℕ → ℕ) → Net → ℕ → Arc → (ℕ → ℕ) → ℕ → ℕ
value_before round net dest arc after t =
    if arc.tail == dest then ONE else round net.scale (weighed after t arc.time)

-- the value of a route at budget t, with each sum rounded to a unit
unfoldable pub route_value : (ℕ → ℕ → ℕ) → Net → ℕ → List ℕ → ℕ → ℕ
route_value round net dest [] t = ONE
route_value round net dest (e ∷ rest) t = elim (arc_at net e) [
  | None ↦ 0
  | Some arc ↦ value_before round net dest arc (route_value round net dest rest) t
]

-- rounded down and rounded up
abbrev pub route_answer : Net → ℕ → List ℕ → ℕ → RouteAnswer
route_answer net dest route t = record {
  lower = route_value floor_by net dest route t;
  upper = route_value ceiling_by net dest route t;
}

-- what a route is answered, or why it is refused
abbrev pub route_result : Net → ℕ → ℕ → List ℕ → Result RouteAnswer RouteFault
route_result net dest budget route = elim (route_fault net dest budget route) [
  | None ↦ Ok (route_answer net dest route budget)
  | Some fault ↦ Err fault
]

-- what is true of the two bounds for who keeps to the route from node o: they enclose the exact
-- chance, differ by at most a unit an arc, and the lower one is at most the upper bound of an ask
-- from there
pub record IsRouteBracket (net : Net) (dest : ℕ) (route : List ℕ) (o t : ℕ) (answer : RouteAnswer)
    : Type 0 where
  pub encloses : EnclosesRoute net dest route o t answer.lower answer.upper
  pub order : answer.lower ≤ answer.upper
  pub gap : answer.upper ≤ answer.lower + length route
  pub best : answer.lower ≤ hi net dest o t
