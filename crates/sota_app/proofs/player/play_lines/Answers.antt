use Rattle.std.proofs.Common.{rules, ◌≡◌, Err, refl}
use Rattle.sota_edge.specs.Desk.{DeskState}
use Rattle.sota_edge.specs.Sink.{SinkState}
use Rattle.sota_app.specs.Inputs.{lines_of}
use Rattle.sota_app.specs.declared.stop.Stop.TheVariants as stops
use Rattle.sota_app.proofs.Made.{nothing_made}
use Rattle.sota_app.proofs.Reaches.{outputs_to}
use Rattle.sota_app.proofs.player.play_lines.Goals as goal

pub returns-in_err-session-clause-made : goal.returns-in_err-session-clause-made
returns-in_err-session-clause-made g c =
    let is : c.from_residual.result ≡ Err stops.NoMemory = search rules in
    let d : DeskState = g.D.Desk.state c.args.desk.now in
    let s : SinkState = g.O.Sink.state c.args.out.now in
    rw is (nothing_made (outputs_to c.args.script.now.voice c.args.network (lines_of c.args.script.now)) d d s s refl refl)
