use Rattle.std.proofs.Common.{◌≡◌, ◌+◌, ◌++◌, map}
use Rattle.sota_text.specs.Spans.{AreWithin}
use Rattle.sota_text.specs.declared.span.Line.{Line}
use Rattle.sota_session.specs.State.{kept_state}
use Rattle.sota_app.specs.Script.{script_lines}
use Rattle.sota_app.specs.Work.{work}
use Rattle.sota_app.proofs.Reaches.{Reached}
use Rattle.sota_app.proofs.Lines.{line_at}
use Rattle.sota_app.proofs.player.Player.play.Given as goal

-- the lines so far are played, and the player stores and writes where it did
abbrev pub invariant-loop-line : goal.invariant-loop-line
invariant-loop-line g l = record {
  within : AreWithin l.bytes (map (λ (line : Line). line.span) l.line-iterator);
  lines : script_lines l.fn.script.voice l.bytes
      ≡ map (line_at l.fn.script.voice l.bytes) l.yielded ++ map (line_at l.fn.script.voice l.bytes) l.line-iterator;
  desk : l.self.desk.ghost_name ≡ l.fn.self.desk.ghost_name;
  sink : l.self.out.ghost_name ≡ l.fn.self.out.ghost_name;
  pushes : l.self.pushes.ghost_name ≡ l.fn.self.pushes.ghost_name;
  work : l.fn.self.pushes.now
      + work l.fn.self.session.now.network (script_lines l.fn.script.voice l.bytes) (kept_state l.fn.self.session.now)
      ≡ l.self.pushes.now
      + work l.self.session.now.network (map (line_at l.fn.script.voice l.bytes) l.line-iterator)
      (kept_state l.self.session.now);
  reached : Reached l.fn.script.voice (map (line_at l.fn.script.voice l.bytes) l.yielded) l.fn.self.session.now.network
      l.self.session.now.network l.refused
      (g.D.Desk.state l.fn.self.desk.now) (g.D.Desk.state l.self.desk.now)
      (g.O.Sink.state l.fn.self.out.now) (g.O.Sink.state l.self.out.now);
}
