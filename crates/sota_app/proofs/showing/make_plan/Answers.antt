use Rattle.std.proofs.Common.{rules, ◌≡◌, None}
use Rattle.sota_network.specs.Network.{IsNet}
use Rattle.sota_polfile.specs.Table.{Table}
use Rattle.sota_session.specs.Asks.{ask_fault}
use Rattle.sota_session.specs.Plans.{plan_table}
use Rattle.sota_session.specs.State.{kept_state}
use Rattle.sota_app.proofs.Worked.{shown_count}
use Rattle.sota_app.proofs.PlanCells.{few_cells}
use Rattle.sota_app.proofs.showing.make_plan.Goals as goal

pub returns-clause-few : goal.returns-clause-few
returns-clause-few g c =
    let net = c.args.session.now.network in
    let ask = c.args.ask.now in
    let table : Table = c.in_ok-table.table in
    let answered : ask_fault net ask ≡ None = search rules in
    let is : table ≡ plan_table net ask = search rules in
    rw is (few_cells net ask (c.accepted_asks_fit.ensures net ask answered))

pub returns-clause-count : goal.returns-clause-count
returns-clause-count g c =
    let net = c.args.session.now.network in
    let ask = c.args.ask.now in
    let kept = kept_state c.args.session.now in
    let answered : ask_fault net ask ≡ None = search rules in
    let valid : IsNet net = rw (← c.in_ok-answer.ensures.leaves.kept) c.in_ok-answer.ensures.leaves.valid in
    shown_count net _ ask kept _ _ _ _ c.in_ok-answer.ensures.leaves.count c.in_ok-answer.ensures.leaves.kept
    c.in_ok-answer.ensures.leaves.state c.in_ok-table.ensures.leaves.count
    (c.asks_push_their_cells.ensures.again net ask kept valid answered)
