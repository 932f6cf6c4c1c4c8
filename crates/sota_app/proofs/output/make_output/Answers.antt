use Rattle.std.proofs.Common.{rules, ◌≡◌, [], ◌∷◌, List, ℕ, Option, Some, None, Err, refl, sym}
use Rattle.std.proofs.Common.{subst}
use Rattle.sota_edge.specs.Desk.{DeskState}
use Rattle.sota_edge.specs.Sink.{SinkState}
use Rattle.sota_app.specs.Outputs.{Ends, LineEnds}
use Rattle.sota_app.specs.Replies.{reply_file, spell, reply_output}
use Rattle.sota_app.specs.declared.reply.NamedFile.{NamedFile}
use Rattle.sota_app.specs.declared.reply.Reply.{Reply}
use Rattle.sota_app.specs.declared.stop.Stop.{Stop}
use Rattle.sota_app.specs.declared.stop.Stop.TheVariants as stops
use Rattle.sota_app.proofs.Made.{nothing_made, stored_ends, not_stored_ends, last_ends}
use Rattle.sota_app.proofs.output.make_output.Goals.{in-Some+in_ok-store_file, in_default}
use Rattle.sota_app.proofs.output.make_output.Goals as goal

pub returns-in_err-line : goal.returns-in_err-line
returns-in_err-line g c =
    let is : c.from_residual.result ≡ Err stops.NoMemory = search rules in
    let d : DeskState = g.D.Desk.state c.args.desk.now in
    let s : SinkState = g.O.Sink.state c.args.out.now in
    rw is (nothing_made (reply_output c.args.voice.now c.args.reply.now ∷ []) d d s s refl refl)

pub returns-in_err-store_file : goal.returns-in_err-store_file
returns-in_err-store_file g c =
    let stop : Stop = c.in_err-store_file.field-0.0 in
    let is : c.from_residual-in_err-store_file.result ≡ Err stop = search rules in
    let reply : Reply = c.args.reply.now in
    let has : reply_file reply ≡ Some c.in-Some.file.now = search rules in
    rw is (not_stored_ends stop (reply_file reply) c.in-Some.file.now (spell c.args.voice.now reply)
    (g.D.Desk.state c.args.desk.now) (g.D.Desk.state c.store_file.new.desk)
    (g.O.Sink.state c.args.out.now) has c.in_err-store_file.ensures)

pub returns : goal.returns
returns g c =
    let reply : Reply = c.args.reply.now in
    let line : List ℕ = spell c.args.voice.now reply in
    let d : DeskState = g.D.Desk.state c.args.desk.now in
    let s : SinkState = g.O.Sink.state c.args.out.now in
    let t : SinkState = g.O.Sink.state c.write_bytes.new.out in
    let wrote : LineEnds c.write_bytes.result line s t = search rules in
    elim c.match-file.branch [
      | in-Some+in_ok-store_file w ↦
          let has : reply_file reply ≡ Some w.in-Some.file.now = search rules in
          rw w.desk-is (stored_ends c.write_bytes.result (reply_file reply) w.in-Some.file.now line
          d (g.D.Desk.state w.store_file.new.desk) s t has w.in_ok-store_file.ensures
          wrote)
      | in_default w ↦
          let none : reply_file reply ≡ None = search rules in
          rw w.desk-is (subst (λ (has : Option NamedFile).
          Ends c.write_bytes.result (record { file = has; line = line } ∷ []) d d s t) (sym none)
          (last_ends c.write_bytes.result line d s t wrote))
    ]
