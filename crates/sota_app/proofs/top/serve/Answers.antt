use Rattle.std.proofs.Common.{rules, ◌≡◌, List, ℕ, Option, Some, None, map, string_bytes, subst}
use Rattle.sota_edge.specs.Desk.{DeskState}
use Rattle.sota_edge.specs.Sink.{SinkState}
use Rattle.sota_app.specs.Words.{request_of}
use Rattle.sota_app.specs.Inputs.{task_work, JobHolds}
use Rattle.sota_app.specs.Causes.{Ended, status_of}
use Rattle.sota_app.specs.declared.words.Request.{Request}
use Rattle.sota_app.proofs.Ends.{ok_ended, err_ended, words_ended}
use Rattle.sota_app.proofs.ShownPlan.{not_worked}
use Rattle.sota_app.proofs.Idle.{idle_done}
use Rattle.sota_app.proofs.top.serve.Goals as goal

pub returns-in_default-clause-ended : goal.returns-in_default-clause-ended
returns-in_default-clause-ended g c =
    let words : List (List ℕ) = map (λ word. string_bytes word) c.args.words.now in
    let none : request_of words ≡ None = search rules in
    let d : DeskState = g.D.Desk.state c.args.desk.now in
    let s : SinkState = g.O.Sink.state c.args.out.now in
    let t : SinkState = g.O.Sink.state c.refuse_words.new.out in
    rw none (words_ended c.refuse_words.result d s t c.refuse_words.ensures.line
    c.refuse_words.ensures.status c.refuse_words.ensures.memory)

pub returns-in-Ok-clause-ended : goal.returns-in-Ok-clause-ended
returns-in-Ok-clause-ended g c =
    let words : List (List ℕ) = map (λ word. string_bytes word) c.args.words.now in
    let is : Some c.in-Some.request ≡ request_of words = search rules in
    let d : DeskState = g.D.Desk.state c.args.desk.now in
    let m : DeskState = g.D.Desk.state c.load_task.new.desk in
    let e : DeskState = g.D.Desk.state c.do_task.new.desk in
    let s : SinkState = g.O.Sink.state c.args.out.now in
    let t : SinkState = g.O.Sink.state c.do_task.new.out in
    subst (λ (o : Option Request). Ended (status_of c.do_task.result) o d e s t) is
    (ok_ended task_work c.in-Some.request c.in-Ok.task c.do_task.result d m e s t
    c.in-Ok.ensures.read c.do_task.ensures.made c.do_task.ensures.status)

pub returns-in-Err-clause-ended : goal.returns-in-Err-clause-ended
returns-in-Err-clause-ended g c =
    let words : List (List ℕ) = map (λ word. string_bytes word) c.args.words.now in
    let is : Some c.in-Some.request ≡ request_of words = search rules in
    let d : DeskState = g.D.Desk.state c.args.desk.now in
    let e : DeskState = g.D.Desk.state c.load_task.new.desk in
    let s : SinkState = g.O.Sink.state c.args.out.now in
    let t : SinkState = g.O.Sink.state c.refuse_input.new.out in
    subst (λ (o : Option Request). Ended (status_of c.refuse_input.result) o d e s t) is
    (err_ended task_work c.in-Some.request c.in-Err.end c.refuse_input.result d e s t
    c.in-Err.ensures.read c.refuse_input.ensures)

pub returns-in-Err-clause-holds : goal.returns-in-Err-clause-holds
returns-in-Err-clause-holds g c = λ files net job tells is.
    not_worked (JobHolds net job) c.in-Err.end c.refuse_input.result
    (g.O.Sink.state c.args.out.now) (g.O.Sink.state c.refuse_input.new.out) c.refuse_input.ensures

pub returns-in-Ok-clause-idle : goal.returns-in-Ok-clause-idle
returns-in-Ok-clause-idle g c =
    idle_done (c.do_task.new.pushes ≡ c.args.pushes.now) c.do_task.result
    (task_work c.in-Ok.task).net (task_work c.in-Ok.task).job c.do_task.ensures.status
