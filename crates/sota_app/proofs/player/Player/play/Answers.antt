use Rattle.std.proofs.Common.{rules, ◌≡◌, ◌+◌, [], map, List, Err, refl, sym, ap, ◌∙◌, subst, arith}
use Rattle.std.proofs.lemmas.List.{map-append}
use Rattle.sota_edge.specs.Desk.{DeskState}
use Rattle.sota_edge.specs.Sink.{SinkState}
use Rattle.sota_app.specs.Outputs.{Stopped}
use Rattle.sota_app.specs.Script.{ScriptLine, script_lines}
use Rattle.sota_session.specs.State.{kept_state}
use Rattle.sota_app.specs.Inputs.{lines_of}
use Rattle.sota_app.specs.Work.{work}
use Rattle.sota_app.proofs.Worked.{line_worked}
use Rattle.sota_app.specs.declared.stop.Stop.{Stop}
use Rattle.sota_app.specs.declared.stop.Stop.TheVariants as stops
use Rattle.sota_app.proofs.Made.{nothing_made}
use Rattle.sota_app.proofs.Reaches.{outputs_to, reach_none, still_reached, reach_more}
use Rattle.sota_app.proofs.Reaches.{stops_at, stops_before}
use Rattle.sota_app.proofs.Lines.{line_at, all_lines, line_played}
use Rattle.sota_app.proofs.player.Player.play.Goals as goal

pub returns-in_err-reply-in-Ask-clause-made : goal.returns-in_err-reply-in-Ask-clause-made
returns-in_err-reply-in-Ask-clause-made g c =
    let is : c.from_residual.result ≡ Err stops.NoMemory = search rules in
    let d : DeskState = g.D.Desk.state c.args.self.now.desk.now in
    let e : DeskState = g.D.Desk.state c.reply_to.new.self.desk.now in
    let s : SinkState = g.O.Sink.state c.args.self.now.out.now in
    let t : SinkState = g.O.Sink.state c.reply_to.new.self.out.now in
    let desk : e ≡ d = search rules in
    let sink : t ≡ s = search rules in
    rw is (nothing_made (outputs_to c.args.script.now.voice c.args.self.now.session.now.network
    (lines_of c.args.script.now)) d e s t desk sink)

pub loop-line-init : goal.loop-line-init
loop-line-init g c = record {
  within = search rules;
  lines = rw c.into_iter-line-iterator.ensures.into_iter_gives
      (all_lines c.args.script.now.voice _ _ c.new-line-items.ensures.texts);
  desk = refl;
  sink = refl;
  pushes = refl;
  work = ap (λ (lines : List ScriptLine). c.args.self.now.pushes.now
      + work c.args.self.now.session.now.network lines (kept_state c.args.self.now.session.now))
      (rw c.into_iter-line-iterator.ensures.into_iter_gives
      (all_lines c.args.script.now.voice _ _ c.new-line-items.ensures.texts));
  reached = reach_none _ _ _ _;
}

pub returns-in_err-reply-in-Text-clause-made : goal.returns-in_err-reply-in-Text-clause-made
returns-in_err-reply-in-Text-clause-made g c =
    let bytes = c.as_slice-bytes.result.now in
    let all : script_lines c.args.script.now.voice bytes ≡ lines_of c.args.script.now = search rules in
    let is : c.from_residual-in_err-reply-in-Text.result ≡ Err stops.NoMemory = search rules in
    let d : DeskState = g.D.Desk.state c.args.self.now.desk.now in
    let m : DeskState = g.D.Desk.state c.loop-line.self.desk.now in
    let e : DeskState = g.D.Desk.state c.reply_to_line.new.self.desk.now in
    let s : SinkState = g.O.Sink.state c.args.self.now.out.now in
    let u : SinkState = g.O.Sink.state c.loop-line.self.out.now in
    let t : SinkState = g.O.Sink.state c.reply_to_line.new.self.out.now in
    let desk : e ≡ m = search rules in
    let sink : t ≡ u = search rules in
    let net = c.args.self.now.session.now.network in
    rw is (subst (λ (lines : List ScriptLine).
    Stopped stops.NoMemory (outputs_to c.args.script.now.voice net lines) d e s t)
    (sym c.loop-line.invariant.lines ∙ all)
    (stops_before _ stops.NoMemory (map (line_at c.args.script.now.voice bytes) c.loop-line.yielded)
    (map (line_at c.args.script.now.voice bytes) c.loop-line.line-iterator) net c.loop-line.self.session.now.network
    c.loop-line.refused d m e s u t c.loop-line.invariant.reached
    (nothing_made [] m e u t desk sink)))

pub returns-in_err-refused-in-Text-clause-made : goal.returns-in_err-refused-in-Text-clause-made
returns-in_err-refused-in-Text-clause-made g c =
    let bytes = c.as_slice-bytes.result.now in
    let lines = rw c.in-Some.ensures.steps at c.loop-line.invariant.lines in
    let all : script_lines c.args.script.now.voice bytes ≡ lines_of c.args.script.now = search rules in
    let stop : Stop = c.in_err-refused-in-Text.field-0.0 in
    let is : c.from_residual-in_err-refused-in-Text.result ≡ Err stop = search rules in
    let desk = ap (λ desk. g.D.Desk.state desk.now) c.reply_to_line.ensures.desk in
    let sink = ap (λ sink. g.O.Sink.state sink.now) c.reply_to_line.ensures.sink in
    rw is (stops_at _ stop (lines_of c.args.script.now) (map (line_at c.args.script.now.voice bytes) c.loop-line.yielded)
    (line_at c.args.script.now.voice bytes c.in-Some.line) (map (line_at c.args.script.now.voice bytes) c.next.new.self) _ _ _
    c.loop-line.refused c.in_ok-reply-in-Text.reply _ _ _ _ _ _ (sym all ∙ lines)
    (still_reached _ _ _ _ _ _ _ _ _ _ _ desk sink c.loop-line.invariant.reached)
    c.in_ok-reply-in-Text.ensures.reply c.in_err-refused-in-Text.ensures.made)

pub loop-line-preserved : goal.loop-line-preserved
loop-line-preserved g c =
    let bytes = c.as_slice-bytes.result.now in
    let desk = ap (λ desk. g.D.Desk.state desk.now) c.reply_to_line.ensures.desk in
    let sink = ap (λ sink. g.O.Sink.state sink.now) c.reply_to_line.ensures.sink in
    record {
      within = (rw c.in-Some.ensures.steps at c.loop-line.invariant.within).1;
      lines = line_played _ bytes c.loop-line.yielded c.in-Some.line c.next.new.self _
          (rw c.in-Some.ensures.steps at c.loop-line.invariant.lines);
      desk = search rules;
      sink = search rules;
      pushes = search rules;
      work = line_worked _ _ (line_at c.args.script.now.voice bytes c.in-Some.line) (map (line_at c.args.script.now.voice bytes) c.next.new.self) _ _ _ _ _
          (rw c.in-Some.ensures.steps at c.loop-line.invariant.work)
          c.in_ok-reply-in-Text.ensures.effort
          (ap (λ step. step.next) c.in_ok-reply-in-Text.ensures.reply);
      reached = rw map-append (reach_more _ (map (line_at c.args.script.now.voice bytes) c.loop-line.yielded)
          (line_at c.args.script.now.voice bytes c.in-Some.line) _ _ _ c.loop-line.refused
          c.in_ok-refused-in-Text.field-0 c.in_ok-reply-in-Text.reply _ _ _ _ _ _
          (still_reached _ _ _ _ _ _ _ _ _ _ _ desk sink c.loop-line.invariant.reached)
          c.in_ok-reply-in-Text.ensures.reply c.in_ok-refused-in-Text.ensures.made
          c.in_ok-refused-in-Text.ensures.refused);
    }

pub returns-in-None-clause-count : goal.returns-in-None-clause-count
returns-in-None-clause-count g c =
    let bytes = c.as_slice-bytes.result.now in
    let net = c.args.self.now.session.now.network in
    let kept = kept_state c.args.self.now.session.now in
    let all : script_lines c.args.script.now.voice bytes ≡ lines_of c.args.script.now = search rules in
    let over : c.loop-line.line-iterator ≡ [] = search rules in
    let none : work c.loop-line.self.session.now.network (map (line_at c.args.script.now.voice bytes) c.loop-line.line-iterator)
    (kept_state c.loop-line.self.session.now) ≡ 0 = rw over refl in
    let same : work net (script_lines c.args.script.now.voice bytes) kept ≡ work net (lines_of c.args.script.now) kept =
    ap (λ (lines : List ScriptLine). work net lines kept) all in
    omega (arith, c.loop-line.invariant.work, none, same)
