use Rattle.std.proofs.Common.{rules, ◌≡◌, true, arith}
use Rattle.sota_network.specs.Network.{Net}
use Rattle.sota_bounds.specs.declared.ask.AskRegion.{AskRegion}
use Rattle.sota_plan.specs.Met.{IsMet}
use Rattle.sota_session.proofs.plan.grow.Goals as goal

pub returns-then-is_met-clause-planned : goal.returns-then-is_met-clause-planned
returns-then-is_met-clause-planned g c =
    let net : Net = c.args.network.now in
    let region : AskRegion = c.args.region.now in
    let v = c.args.tables.now in
    let yes : c.is_met.result ≡ true = search rules in
    let met : IsMet region v net = c.is_met.ensures yes in
    c.grown_tables_are_planned.ensures net region v v met.valid c.requires.region c.requires.budget c.requires.origin met.dest met.based met.grown met.settled

pub returns-then-is_met-clause-count : goal.returns-then-is_met-clause-count
returns-then-is_met-clause-count g c =
    let yes : c.is_met.result ≡ true = search rules in
    let met : IsMet c.args.region.now c.args.tables.now c.args.network.now = c.is_met.ensures yes in
    omega (arith, met.none)

pub returns-clause-planned : goal.returns-clause-planned
returns-clause-planned g c =
    let net : Net = c.args.network.now in
    let region : AskRegion = c.args.region.now in
    let ready = c.in_ok-run.ensures.ready in
    c.grown_tables_are_planned.ensures net region c.prepare.new.tables c.extend.new.tables ready.valid c.requires.region c.requires.budget c.requires.origin
    (rw (← c.in_ok-run.ensures.region) ready.dest) (rw (← c.in_ok-run.ensures.region) ready.based) (rw (← c.in_ok-run.ensures.region) c.extend.ensures.state) c.extend.ensures.settled
