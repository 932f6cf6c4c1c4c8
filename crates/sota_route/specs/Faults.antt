-- Why a route is refused.
use Rattle.std.specs.Prelude.{ℕ, ◌+◌, ◌==◌, nat_lt, Bool, true, false, not}
use Rattle.std.specs.Prelude.{List, [], ◌∷◌, length, codes, Option, None, Some, if◌then◌else◌}
use Rattle.sota_units.specs.Ids.{is_node_number}
use Rattle.sota_units.specs.Limits.{BUDGET_LIMIT}
use Rattle.sota_network.specs.Network.{Net, arc_at}
use Rattle.sota_route.specs.declared.fault.RouteFault.{RouteFault}
use Rattle.sota_route.specs.declared.fault.RouteFault.TheVariants.{NoDest, Budget, RouteArcs}
use Rattle.sota_route.specs.declared.fault.RouteFault.TheVariants.{NoLeg, Broken, NotThere}
use Rattle.sota_route.specs.declared.fault.RouteFault.TheVariants.{NoMemory}

-- the most arcs of a route
abbrev pub ROUTE_LIMIT : ℕ
ROUTE_LIMIT = 1000

-- whether an arc from node `tail` can be taken by who stands at a node, or anywhere yet
abbrev pub can_leave : Option ℕ → ℕ → Bool
can_leave None tail = true
can_leave (Some at) tail = at == tail

-- whether who stands at a node, or anywhere yet, is at the destination
abbrev pub has_arrived : ℕ → Option ℕ → Bool
has_arrived dest None = false
has_arrived dest (Some at) = at == dest

-- the first place, counted from the given one, whose arc is none or does not leave the head of the
-- arc before; then whether the last head is the destination
abbrev pub leg_fault : Net → ℕ → Option ℕ → ℕ → List ℕ → Option RouteFault
leg_fault net dest at place [] = if has_arrived dest at then None else Some NotThere
leg_fault net dest at place (e ∷ rest) = elim (arc_at net e) [
  | None ↦ Some (NoLeg place)
  | Some arc ↦ (if can_leave at arc.tail
      then leg_fault net dest (Some arc.head) (place + 1) rest
      else Some (Broken place))
]

-- the first fault of a route, in the order in which they are looked for
abbrev pub route_fault : Net → ℕ → ℕ → List ℕ → Option RouteFault
route_fault net dest budget route =
    if not (is_node_number net.nodes dest) then Some NoDest else
    if nat_lt BUDGET_LIMIT budget then Some Budget else
    if nat_lt ROUTE_LIMIT (length route) then Some (RouteArcs (length route)) else
    leg_fault net dest None 1 route

abbrev pub is_shortage : RouteFault → Bool
is_shortage NoMemory = true
is_shortage _ = false

-- the name of a fault, as replies print it
abbrev pub route_word : RouteFault → List ℕ
route_word NoDest = codes "NoDest"
route_word Budget = codes "Budget"
route_word (RouteArcs _) = codes "RouteArcs"
route_word (NoLeg _) = codes "NoLeg"
route_word (Broken _) = codes "Broken"
route_word NotThere = codes "NotThere"
route_word NoMemory = codes "NoMemory"

-- the number that a reply prints after the name, where there is one
abbrev pub route_number : RouteFault → Option ℕ
route_number (RouteArcs count) = Some count
route_number (NoLeg place) = Some place
route_number (Broken place) = Some place
route_number _ = None
