-- A command that is not refused: the text around its line.
use Rattle.std.proofs.Common.{ℕ, ◌≡◌, ◌++◌, List, Option, Some, None, option_map, refl, ◌∙◌, ap, subst}
use Rattle.sota_edge.specs.Desk.{Files, DeskState}
use Rattle.sota_edge.specs.Sink.{SinkState, Wrote}
use Rattle.sota_network.specs.Network.{Net}
use Rattle.sota_script.specs.declared.command.Command.{Command}
use Rattle.sota_app.specs.Outputs.{text_of}
use Rattle.sota_app.specs.Replies.{spell, replies_text}
use Rattle.sota_app.specs.Script.{command_on, command_refusal, effect_of, unless_refused}
use Rattle.sota_app.specs.Script.{result_step, step, replies_to}
use Rattle.sota_app.specs.Outcome.{Outcome, outcome_of, play}
use Rattle.sota_app.specs.Causes.{Delivered}
use Rattle.sota_app.specs.Commands.{CommandLine, command_net, IsDone, Replied}
use Rattle.sota_app.specs.declared.reply.Refusal.{Refusal}
use Rattle.sota_app.specs.declared.words.Request.{Request}
use Rattle.sota_app.specs.declared.status.Status.{Status}
use Rattle.sota_app.proofs.Answered.{Means, work_done, text_replied}
use Rattle.sota_app.proofs.EachLine.{line_in_text}

-- such a command is replied to by its effect, and leaves the network of that
done_reply : (net : Net) (number : ℕ) (command : Command) → command_refusal net command ≡ None
    → (step net (command_on number command)).reply ≡ Some (effect_of net command).reply
done_reply net number command accepted =
    ap (λ (refusal : Option Refusal).
    (result_step net number (unless_refused refusal (effect_of net command))).reply) accepted

done_next : (net : Net) (number : ℕ) (command : Command) → command_refusal net command ≡ None
    → (step net (command_on number command)).next ≡ (effect_of net command).next
done_next net number command accepted =
    ap (λ (refusal : Option Refusal).
    (result_step net number (unless_refused refusal (effect_of net command))).next) accepted

command_written : (line : CommandLine) (words : List (List ℕ)) (o : Option Request)
    (files : Files) (result : Status) (d e : DeskState) (s t : SinkState)
    → (done : IsDone words files line)
    → Means o files (record { net = line.net; job = play line.voice done.lines })
    → Delivered (outcome_of o files) result d e s t
    → Replied line (effect_of (command_net line) line.command).reply s t
command_written line words o files result d e s t done work all =
    let net = command_net line in
    subst (λ (text : List ℕ). Wrote text s t)
    (ap (λ (o : Outcome). text_of o.outputs) (work_done o files _ work)
    ∙ text_replied line.voice (replies_to line.net done.lines)
    ∙ ap (λ lines. replies_text line.voice (replies_to line.net lines)) done.place
    ∙ line_in_text line.voice line.net line.above (command_on line.number line.command) line.below
    (effect_of net line.command).reply (done_reply net line.number line.command done.accepted)
    ∙ ap (λ (next : Net). replies_text line.voice (replies_to line.net line.above)
    ++ (spell line.voice (effect_of net line.command).reply
    ++ replies_text line.voice (replies_to next line.below)))
    (done_next net line.number line.command done.accepted))
    all.made.text

-- the same of a command that is known
pub command_replied : (line : CommandLine) (words : List (List ℕ)) (o : Option Request)
    (files : Files) (result : Status) (d e : DeskState) (s t : SinkState) (command : Command)
    → line.command ≡ command → (done : IsDone words files line)
    → Means o files (record { net = line.net; job = play line.voice done.lines })
    → Delivered (outcome_of o files) result d e s t
    → Replied line (effect_of (command_net line) command).reply s t
command_replied line words o files result d e s t command is done work all =
    subst (λ (command : Command). Replied line (effect_of (command_net line) command).reply s t) is
    (command_written line words o files result d e s t done work all)

-- what is not refused has no fault
pub none_of : {A B : Type 0} (f : A → B) (found : Option A) → option_map f found ≡ None
    → found ≡ None
none_of f None e = refl
none_of f (Some x) e = absurd (cc)
