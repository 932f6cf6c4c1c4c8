use Rattle.std.proofs.Common.{rules, ◌≡◌, ℕ, List, Err}
use Rattle.sota_units.specs.Memory.{Unless}
use Rattle.sota_script.specs.Lines.{parse_line}
use Rattle.sota_script.specs.Words as lines
use Rattle.sota_script.specs.declared.fault.LineFault.{LineFault}
use Rattle.sota_app.specs.declared.reply.Refusal.TheVariants as refusals
use Rattle.sota_app.proofs.Resolved.{resolved_fault}
use Rattle.sota_app.proofs.voice.Voice.read.Goals as goal

pub returns-in_err-read_line-in-Json-clause-meaning :
    goal.returns-in_err-read_line-in-Json-clause-meaning
returns-in_err-read_line-in-Json-clause-meaning c =
    let fault : LineFault = c.in_err-read_line-in-Json.field-0.0 in
    let bytes : List ℕ = c.in_ok-resolved-in-Json.resolved.items in
    let is : c.from_residual-in_err-read_line-in-Json.result ≡ Err (refusals.Line fault) =
    search rules in
    let answers : Unless (lines.is_shortage fault) (parse_line bytes ≡ Err fault) =
    search rules in
    rw is (rw c.in-Json.is (resolved_fault _ bytes fault (lines.is_shortage fault)
    c.in_ok-resolved-in-Json.ensures.meaning answers))
