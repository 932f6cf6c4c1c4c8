use Rattle.std.proofs.Common.{rules, ◌≡◌, ◌∙◌, None, Ok, Err, refl, subst}
use Rattle.sota_network.specs.Network.{IsNet}
use Rattle.sota_kept.specs.States.{first_state}
use Rattle.sota_units.specs.Memory.{Unless}
use Rattle.sota_edge.specs.Sink.{SinkState}
use Rattle.sota_bounds.specs.AskFaults as asks
use Rattle.sota_session.specs.Asks.{ask_fault}
use Rattle.sota_session.specs.State.{kept_state}
use Rattle.sota_app.specs.Script.{session_ask}
use Rattle.sota_app.specs.Shown.{plan_result}
use Rattle.sota_app.specs.Outcome.{shown}
use Rattle.sota_app.specs.Work.{region_pushes}
use Rattle.sota_app.proofs.Worked.{not_refused, shown_all, shown_first, refused_count}
use Rattle.sota_app.specs.declared.stop.Stop.TheVariants as stops
use Rattle.sota_app.proofs.Made.{nothing_made}
use Rattle.sota_app.proofs.ShownPlan.{refused_ends, refused_holds}
use Rattle.sota_app.proofs.showing.show_plan.Goals as goal

pub returns-in_err-session-clause-made : goal.returns-in_err-session-clause-made
returns-in_err-session-clause-made g c = λ d.
    let is : c.from_residual.result ≡ Err stops.NoMemory = search rules in
    let s : SinkState = g.O.Sink.state c.args.out.now in
    rw is (nothing_made (shown c.args.network (session_ask c.args.ask)).outputs d d s s refl refl)

pub returns-clause-made : goal.returns-clause-made
returns-clause-made g c = λ d.
    let net = c.args.network in
    let ask = session_ask c.args.ask in
    let fault = c.in-Err.fault in
    let s : SinkState = g.O.Sink.state c.args.out.now in
    let t : SinkState = g.O.Sink.state c.refuse_ask.new.out in
    let answers : Unless (asks.is_shortage fault) (plan_result net ask ≡ Err fault) =
    search rules in
    refused_ends net ask fault (asks.is_shortage fault) c.refuse_ask.result d s t answers
    c.refuse_ask.ensures.line c.refuse_ask.ensures.shortage

pub returns-in-Ok-clause-count : goal.returns-in-Ok-clause-count
returns-in-Ok-clause-count g c =
    let net = c.args.network in
    let ask = session_ask c.args.ask in
    let answers : plan_result net ask ≡ Ok c.in-Ok.plan = search rules in
    let accepted : ask_fault net ask ≡ None =
    not_refused (ask_fault net ask) _ c.in-Ok.plan answers in
    let valid : IsNet net =
    subst IsNet (c.in-Ok.ensures.kept ∙ c.in_ok-session.ensures.network) c.in-Ok.ensures.valid in
    let made = shown_first net c.in_ok-session.session.network ask c.session_ask-ask.result
    (kept_state c.in_ok-session.session) (first_state net.nodes) _ _ (region_pushes net ask)
    c.in-Ok.ensures.count c.in_ok-session.ensures.network c.session_ask-ask.ensures
    c.in_ok-session.ensures.state
    (c.asks_push_their_cells.ensures.first net ask valid accepted) in
    shown_all net ask c.in-Ok.plan c.write_plan.result _ _ _ answers made

pub returns-clause-count : goal.returns-clause-count
returns-clause-count g c =
    let net = c.args.network in
    let ask = session_ask c.args.ask in
    let fault = c.in-Err.fault in
    let answers : Unless (asks.is_shortage fault) (plan_result net ask ≡ Err fault) =
    search rules in
    refused_count net ask fault (asks.is_shortage fault) c.refuse_ask.result _ _ _ answers
    c.in-Err.ensures.no_push (λ short. (c.refuse_ask.ensures.shortage short).0)

pub returns-clause-holds : goal.returns-clause-holds
returns-clause-holds g c =
    let net = c.args.network in
    let ask = session_ask c.args.ask in
    let fault = c.in-Err.fault in
    let answers : Unless (asks.is_shortage fault) (plan_result net ask ≡ Err fault) =
    search rules in
    refused_holds net ask fault (asks.is_shortage fault) c.refuse_ask.result answers
    (λ short. (c.refuse_ask.ensures.shortage short).0)
