use Rattle.std.proofs.Common.{rules}
use Rattle.sota_session.specs.State.{IsLeft}
use Rattle.sota_tables.specs.Views.{lists_of}
use Rattle.sota_session.proofs.Asked.{state-seen, count-seen, left-seen, left-before}
use Rattle.sota_session.proofs.Results.{on-err}
use Rattle.sota_session.proofs.session.Session.ask.Goals as goal

pub returns-in_err-region-clause-leaves : goal.returns-in_err-region-clause-leaves
returns-in_err-region-clause-leaves g c =
    let left = left-before c.from_residual.result c.self.view_is c.args.ask (lists_of c.plan.new.tables) c.args.pushes.now c.plan.new.pushes
    c.in_err-region.ensures.left c.in_err-region.ensures.no_push in
    search rules

pub returns-in_err-region-clause-left : goal.returns-in_err-region-clause-left
returns-in_err-region-clause-left g c =
    on-err c.from_residual.result (IsLeft c.args.self.now.network c.args.ask c.args.self.now.tables (lists_of c.plan.new.tables))
    (left-seen c.self.view_is c.args.ask (lists_of c.plan.new.tables) c.in_err-region.ensures.left)

pub returns-clause-leaves : goal.returns-clause-leaves
returns-clause-leaves g c =
    let state = state-seen c.self.view_is c.args.ask (lists_of c.plan.new.tables) c.in_ok-region.ensures.state in
    let count = count-seen c.self.view_is c.args.ask c.args.pushes.now c.plan.new.pushes c.in_ok-region.ensures.count in
    search rules
