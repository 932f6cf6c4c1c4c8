use Rattle.std.proofs.Common.{rules, ◌≡◌, ◌++◌, Err, refl}
use Rattle.sota_edge.specs.Sink.{SinkState}
use Rattle.sota_check.specs.Rejected.{rejection}
use Rattle.sota_app.specs.Outputs.{LineEnds, only_line}
use Rattle.sota_app.specs.Replies.{answer_line}
use Rattle.sota_app.specs.Verdicts.{verdict_line}
use Rattle.sota_app.specs.Shown.{made_line}
use Rattle.sota_app.specs.Outcome.{shown}
use Rattle.sota_app.specs.declared.stop.Stop.{Stop}
use Rattle.sota_app.specs.declared.stop.Stop.TheVariants as stops
use Rattle.sota_app.proofs.Made.{done, stopped_by, nothing_made, last_ends}
use Rattle.sota_app.proofs.ThreeLines.{first_stops, then_ends}
use Rattle.sota_app.proofs.showing.write_plan.Goals as goal

pub returns-in_err-again-clause-made : goal.returns-in_err-again-clause-made
returns-in_err-again-clause-made g c = λ d.
    let is : c.from_residual.result ≡ Err stops.NoMemory = search rules in
    let s : SinkState = g.O.Sink.state c.args.out.now in
    rw is (nothing_made (shown c.args.network.now c.args.ask.now).outputs d d s s refl refl)

pub returns-in_err-made-clause-made : goal.returns-in_err-made-clause-made
returns-in_err-made-clause-made g c = λ d.
    let is : c.from_residual-in_err-made.result ≡ Err stops.NoMemory = search rules in
    let s : SinkState = g.O.Sink.state c.args.out.now in
    rw is (nothing_made (shown c.args.network.now c.args.ask.now).outputs d d s s refl refl)

pub returns-in_err-answer-clause-made : goal.returns-in_err-answer-clause-made
returns-in_err-answer-clause-made g c = λ d.
    let is : c.from_residual-in_err-answer.result ≡ Err stops.NoMemory = search rules in
    let s : SinkState = g.O.Sink.state c.args.out.now in
    rw is (nothing_made (shown c.args.network.now c.args.ask.now).outputs d d s s refl refl)

pub returns-in_err-write_line-clause-made : goal.returns-in_err-write_line-clause-made
returns-in_err-write_line-clause-made g c = λ d.
    let stop : Stop = c.in_err-write_line.field-0.0 in
    let is : c.from_residual-in_err-write_line.result ≡ Err stop = search rules in
    let net = c.args.network.now in
    let ask = c.args.ask.now in
    let plan = c.args.plan.now in
    let s : SinkState = g.O.Sink.state c.args.out.now in
    let t : SinkState = g.O.Sink.state c.write_line.new.out in
    let wrote : LineEnds (stopped_by (Unit {0}) stop) (made_line net plan.table) s t =
    search rules in
    rw is (rw c.requires.plan (first_stops stop (made_line net plan.table)
    (only_line (answer_line ask plan.answer)
    ++ only_line (verdict_line plan.table (rejection net plan.table))) d s t wrote))

pub returns-in_err-write_line-2-clause-made : goal.returns-in_err-write_line-2-clause-made
returns-in_err-write_line-2-clause-made g c = λ d.
    let stop : Stop = c.in_err-write_line-2.field-0.0 in
    let is : c.from_residual-in_err-write_line-2.result ≡ Err stop = search rules in
    let net = c.args.network.now in
    let ask = c.args.ask.now in
    let plan = c.args.plan.now in
    let s : SinkState = g.O.Sink.state c.args.out.now in
    let u : SinkState = g.O.Sink.state c.write_line.new.out in
    let t : SinkState = g.O.Sink.state c.write_line-2.new.out in
    let first : LineEnds (done (tt {0})) (made_line net plan.table) s u = search rules in
    let second : LineEnds (stopped_by (Unit {0}) stop) (answer_line ask plan.answer) u t =
    search rules in
    let last = only_line (verdict_line plan.table (rejection net plan.table)) in
    rw is (rw c.requires.plan (then_ends (stopped_by (Unit {0}) stop) (made_line net plan.table)
    (only_line (answer_line ask plan.answer) ++ last) d s u t first
    (first_stops stop (answer_line ask plan.answer) last d u t second)))

pub returns-clause-made : goal.returns-clause-made
returns-clause-made g c = λ d.
    let net = c.args.network.now in
    let ask = c.args.ask.now in
    let plan = c.args.plan.now in
    let s : SinkState = g.O.Sink.state c.args.out.now in
    let u : SinkState = g.O.Sink.state c.write_line.new.out in
    let v : SinkState = g.O.Sink.state c.write_line-2.new.out in
    let t : SinkState = g.O.Sink.state c.check_policy.new.out in
    let first : LineEnds (done (tt {0})) (made_line net plan.table) s u = search rules in
    let second : LineEnds (done (tt {0})) (answer_line ask plan.answer) u v = search rules in
    let verdict = verdict_line plan.table (rejection net plan.table) in
    let third : LineEnds c.check_policy.result verdict v t = search rules in
    rw c.requires.plan (then_ends c.check_policy.result (made_line net plan.table)
    (only_line (answer_line ask plan.answer) ++ only_line verdict) d s u t first
    (then_ends c.check_policy.result (answer_line ask plan.answer) (only_line verdict) d u v t
    second (last_ends c.check_policy.result verdict d v t third)))
