use Rattle.std.proofs.Common.{ℕ, ◌≡◌, ◌+◌, List, [], ◌∙◌, sym, ap, drop, true, arith, None}
use Rattle.std.proofs.Math.ListN.{drop_of_length-le}
use Rattle.sota_route.specs.Faults.{has_arrived, leg_fault}
use Rattle.sota_route.proofs.Legs.{legs-in_range, legs-over}
use Rattle.sota_route.proofs.fault.find_leg_fault.Goals as goal

pub returns-then-has_arrived-clause-arcs : goal.returns-then-has_arrived-clause-arcs
returns-then-has_arrived-clause-arcs c =
    let over : drop c.loop-index.index c.args.route.now ≡ [] = drop_of_length-le c.args.route.now (omega (arith, c.loop-index.auto.index-end, c.loop-index-test.false)) in
    let there : has_arrived c.args.dest c.loop-index.at ≡ true = sym c.has_arrived.ensures ∙ c.if-has_arrived.true in
    let clear : leg_fault c.args.network.now c.args.dest None 1 c.args.route.now ≡ None =
    sym c.loop-index.invariant
    ∙ ap (λ (route : List ℕ). leg_fault c.args.network.now c.args.dest c.loop-index.at (c.loop-index.index + 1) route) over
    ∙ legs-over c.args.network.now c.args.dest c.loop-index.at (c.loop-index.index + 1) there in
    legs-in_range c.args.network.now c.args.dest None 1 c.args.route.now clear
