-- A route without a fault leads from its first tail to the destination.
use Rattle.std.proofs.Common.{ℕ, zero, suc, ◌≡◌, ◌+◌, ◌<◌, ◌≤◌, ◌==◌, cond, Bool, true, false, not, nat_lt, List, [], ◌∷◌, length, Option, None, Some, refl, sym, arith}
use Rattle.std.proofs.lemmas.Bool.{eqb-true}
use Rattle.std.proofs.lemmas.Option.{slice_get_within}
use Rattle.std.proofs.lemmas.List.Elements.{All-cons}
use Rattle.std.specs.List.{All}
use Rattle.sota_units.specs.Ids.{is_node_number}
use Rattle.sota_units.specs.Limits.{BUDGET_LIMIT}
use Rattle.sota_network.specs.Network.{Net, arc_at}
use Rattle.sota_network.specs.declared.network.Arc.{Arc}
use Rattle.sota_route.specs.Faults.{ROUTE_LIMIT, can_leave, has_arrived, leg_fault, route_fault}
use Rattle.sota_route.specs.Routes.{start_of}
use Rattle.sota_route.proofs.Along.{Leads}

-- where a test decides between a fault and what follows, and there is none
went : {F : Type 0} (test : Bool) (fault : F) (next : Option F)
    → cond test next (Some fault) ≡ None → (test ≡ true) × (next ≡ None)
went true fault next h = (refl, h)
went false fault next h = absurd (cc)

arrived : {F : Type 0} (test : Bool) (fault : F) → cond test None (Some fault) ≡ None → test ≡ true
arrived true fault h = refl
arrived false fault h = absurd (cc)

passed : {F : Type 0} (test : Bool) (fault : F) (next : Option F)
    → cond test (Some fault) next ≡ None → next ≡ None
passed true fault next h = absurd (cc)
passed false fault next h = h

-- what is decided at an arc
fault-lost : (net : Net) (dest : ℕ) (at : Option ℕ) (place e : ℕ) (rest : List ℕ)
    → arc_at net e ≡ None → leg_fault net dest at place (e ∷ rest) ≡ None → ⊥
fault-lost net dest at place e rest is h = absurd (let none = rw (is, leg_fault) at h in cc)

fault-on : (net : Net) (dest : ℕ) (at : Option ℕ) (place e : ℕ) (rest : List ℕ) (arc : Arc)
    → arc_at net e ≡ Some arc → leg_fault net dest at place (e ∷ rest) ≡ None
    → (can_leave at arc.tail ≡ true) × (leg_fault net dest (Some arc.head) (place + 1) rest ≡ None)
fault-on net dest at place e rest arc is h = went (can_leave at arc.tail) _ _ (rw (is, leg_fault) at h)

module _ (net : Net) (dest : ℕ) where
  leads-by : (o place e : ℕ) (rest : List ℕ)
      → ((j next : ℕ) → leg_fault net dest (Some j) next rest ≡ None → Leads net dest j rest)
      → (found : Option Arc) → arc_at net e ≡ found
      → leg_fault net dest (Some o) place (e ∷ rest) ≡ None → Leads net dest o (e ∷ rest)
  leads-by o place e rest after None is h =
      absurd (fault-lost net dest (Some o) place e rest is h)
  leads-by o place e rest after (Some arc) is h =
      let on = fault-on net dest (Some o) place e rest arc is h in
      (arc, is, sym (eqb-true o arc.tail on.0), after arc.head (place + 1) on.1)

  leads-on : (o place : ℕ) (route : List ℕ) → leg_fault net dest (Some o) place route ≡ None
      → Leads net dest o route
  leads-on o place [] h = eqb-true o dest (arrived (o == dest) _ h)
  leads-on o place (e ∷ rest) h =
      leads-by o place e rest (λ j next clear. leads-on j next rest clear) (arc_at net e) refl h

  -- the first arc leaves its own tail
  leads-first : (o place e : ℕ) (rest : List ℕ) (found : Option Arc) → arc_at net e ≡ found
      → leg_fault net dest None place (e ∷ rest) ≡ None → start_of net (e ∷ rest) ≡ Some o
      → Leads net dest o (e ∷ rest)
  leads-first o place e rest None is h start =
      absurd (fault-lost net dest None place e rest is h)
  leads-first o place e rest (Some arc) is h start =
      let on = fault-on net dest None place e rest arc is h in
      let tail : arc.tail ≡ o = (let same : Some arc.tail ≡ Some o = (rw (is, start_of) at start) in cc) in
      (arc, is, tail, leads-on arc.head (place + 1) rest on.1)

  leads-from : (o place : ℕ) (route : List ℕ) → leg_fault net dest None place route ≡ None
      → start_of net route ≡ Some o → Leads net dest o route
  leads-from o place [] h start = absurd (cc)
  leads-from o place (e ∷ rest) h start = leads-first o place e rest (arc_at net e) refl h start

  legs-clear : (budget : ℕ) (route : List ℕ) → route_fault net dest budget route ≡ None
      → leg_fault net dest None 1 route ≡ None
  legs-clear budget route h =
      passed (nat_lt ROUTE_LIMIT (length route)) _ _
      (passed (nat_lt BUDGET_LIMIT budget) _ _ (passed (not (is_node_number net.nodes dest)) _ _ h))

  -- a route without a fault leads from its first tail to the destination
  pub route-leads : (o budget : ℕ) (route : List ℕ) → route_fault net dest budget route ≡ None
      → start_of net route ≡ Some o → Leads net dest o route
  route-leads o budget route h start = leads-from o 1 route (legs-clear budget route h) start

  -- all its numbers are those of arcs
  abbrev pub IsKnown : ℕ → Type 0
  IsKnown e = (1 ≤ e) × (e ≤ length net.arcs)

  abbrev pub AllKnown : List ℕ → Type 0
  AllKnown route = All IsKnown route

  in-range : (e : ℕ) (arc : Arc) → arc_at net e ≡ Some arc → (1 ≤ e) × (e ≤ length net.arcs)
  in-range zero arc is = absurd (cc)
  in-range (suc k) arc is =
      let within : k < length net.arcs = slice_get_within net.arcs k arc is in
      (omega arith, omega arith)

  legs-by : (at : Option ℕ) (place e : ℕ) (rest : List ℕ)
      → ((j : Option ℕ) (next : ℕ) → leg_fault net dest j next rest ≡ None → AllKnown rest)
      → (found : Option Arc) → arc_at net e ≡ found
      → leg_fault net dest at place (e ∷ rest) ≡ None → AllKnown (e ∷ rest)
  legs-by at place e rest after None is h =
      absurd (fault-lost net dest at place e rest is h)
  legs-by at place e rest after (Some arc) is h =
      let on = fault-on net dest at place e rest arc is h in
      All-cons IsKnown e rest (in-range e arc is) (after (Some arc.head) (place + 1) on.1)

  pub legs-in_range : (at : Option ℕ) (place : ℕ) (route : List ℕ)
      → leg_fault net dest at place route ≡ None → AllKnown route
  legs-in_range at place [] h = λ k d less. absurd (omega arith)
  legs-in_range at place (e ∷ rest) h =
      legs-by at place e rest (λ j next clear. legs-in_range j next rest clear) (arc_at net e) refl h

  -- a route that is over has no fault where it has arrived
  pub legs-over : (at : Option ℕ) (place : ℕ) → has_arrived dest at ≡ true
      → leg_fault net dest at place [] ≡ None
  legs-over at place there = rw (there, leg_fault) refl
