use Rattle.std.proofs.Common.{rules, ◌≡◌}
use Rattle.sota_edge.specs.Desk.{DeskState}
use Rattle.sota_edge.specs.Sink.{SinkState}
use Rattle.sota_app.specs.declared.inputs.Job.TheVariants as jobs
use Rattle.sota_app.specs.declared.inputs.Task.TheVariants as tasks
use Rattle.sota_app.proofs.Made.{last_ends}
use Rattle.sota_app.proofs.top.do_task.Goals as goal

pub returns-in-Judge-clause-made : goal.returns-in-Judge-clause-made
returns-in-Judge-clause-made g c =
    let is : c.args.task ≡ tasks.OnNetwork c.in-OnNetwork.network (jobs.Judge c.in-Judge.table) =
    search rules in
    let d : DeskState = g.D.Desk.state c.args.desk.now in
    let s : SinkState = g.O.Sink.state c.args.out.now in
    rw is (last_ends c.check_policy.result _ d s _ c.check_policy.ensures.line)

pub returns-in-JudgeBracket-clause-made : goal.returns-in-JudgeBracket-clause-made
returns-in-JudgeBracket-clause-made g c =
    let is : c.args.task
    ≡ tasks.OnNetwork c.in-OnNetwork.network (jobs.JudgeBracket c.in-JudgeBracket.table) =
    search rules in
    let d : DeskState = g.D.Desk.state c.args.desk.now in
    let s : SinkState = g.O.Sink.state c.args.out.now in
    rw is (last_ends c.judge_bracket.result _ d s _ c.judge_bracket.ensures.line)

pub returns-in-Replay-clause-made : goal.returns-in-Replay-clause-made
returns-in-Replay-clause-made g c =
    let is : c.args.task ≡ tasks.OnNetwork c.in-OnNetwork.network
    (jobs.Replay c.in-Replay.table c.in-Replay.trips) =
    search rules in
    let d : DeskState = g.D.Desk.state c.args.desk.now in
    let s : SinkState = g.O.Sink.state c.args.out.now in
    rw is (last_ends c.replay_policy.result _ d s _ c.replay_policy.ensures.line)

pub returns-in-OverPeriods-clause-made : goal.returns-in-OverPeriods-clause-made
returns-in-OverPeriods-clause-made g c =
    let is : c.args.task ≡ tasks.OverPeriods c.in-OverPeriods.periods c.in-OverPeriods.asked =
    search rules in
    let d : DeskState = g.D.Desk.state c.args.desk.now in
    let s : SinkState = g.O.Sink.state c.args.out.now in
    rw is (last_ends c.answer_timed.result _ d s _ c.answer_timed.ensures.line)
