use Rattle.std.proofs.Common.{◌≡◌, ◌∙◌, sym, None}
use Rattle.sota_route.specs.Faults.{route_fault}
use Rattle.sota_route.proofs.bracket.route_bracket.Goals as goal

pub returns-clause-bracket : goal.returns-clause-bracket
returns-clause-bracket c = λ o start.
    let clear : route_fault c.args.network.now c.args.dest c.args.budget c.args.route.now ≡ None = sym c.find_route_fault.ensures.value ∙ c.in_default.is in
    rw (c.in_ok-bound_of.ensures, c.in_ok-bound_of-2.ensures)
    (c.routes_are_enclosed.ensures c.args.network.now c.args.dest c.args.budget o c.args.route.now c.find_route_fault.ensures.valid clear start)
