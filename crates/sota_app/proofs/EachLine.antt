-- Each line of a script by itself: where its reply stands in the text, and that its network is one.
use Rattle.std.proofs.Common.{◌≡◌, ℕ, ◌++◌, List, [], ◌∷◌, Option, Some, None, option_map, Result}
use Rattle.std.proofs.Common.{Ok, Err}
use Rattle.std.proofs.Common.{option_to_list, refl, ◌∙◌, ap, append-nil, ◌≤◌, arith, rules}
use Rattle.std.specs.Option.{option_or}
use Rattle.sota_hist.specs.Time.{IsTime, total}
use Rattle.sota_hist.specs.Build.{at_most_fault, time_of}
use Rattle.sota_hist.specs.declared.fault.HistFault.{HistFault}
use Rattle.sota_network.specs.Network.{Net, IsNet, replaced}
use Rattle.sota_script.specs.declared.command.Ask3.{Ask3}
use Rattle.sota_script.specs.declared.command.Command.{Command}
use Rattle.sota_script.specs.declared.command.Command.TheVariants as commands
use Rattle.sota_session.specs.Asks.{ask_fault, answer_of}
use Rattle.sota_bounds.specs.declared.fault.AskFault.{AskFault}
use Rattle.sota_app.specs.Replies.{spell, replies_text}
use Rattle.sota_app.specs.Script.{ScriptLine, Effect, ask_on, session_ask, arc_refusal}
use Rattle.sota_app.specs.Script.{command_refusal}
use Rattle.sota_app.specs.Script.{effect_of, unless_refused, result_step, parsed_step, step}
use Rattle.sota_app.specs.Script.{network_after, replies_to}
use Rattle.sota_app.specs.declared.voice.Voice.{Voice}
use Rattle.sota_app.specs.declared.reply.Reply.{Reply}
use Rattle.sota_app.specs.declared.reply.Reply.TheVariants as replies
use Rattle.sota_app.specs.declared.reply.Refusal.{Refusal}
use Rattle.sota_app.specs.declared.reply.Refusal.TheVariants as refusals
use Rattle.sota_app.proofs.Reaches.{around}

-- the reply to a line stands after those to the lines above it
pub line_in_text : (voice : Voice) (net : Net) (before : List ScriptLine) (line : ScriptLine)
    (after : List ScriptLine) (reply : Reply)
    → (step (network_after net before) line).reply ≡ Some reply
    → replies_text voice (replies_to net (before ++ line ∷ after))
    ≡ replies_text voice (replies_to net before) ++ (spell voice reply
    ++ replies_text voice (replies_to (step (network_after net before) line).next after))
line_in_text voice net before line after reply is =
    let rest : List ℕ =
    replies_text voice (replies_to (step (network_after net before) line).next after) in
    around voice before line after net (network_after net before) refl
    ∙ ap (λ (reply : Option Reply). replies_text voice (replies_to net before)
    ++ (replies_text voice (option_to_list reply) ++ rest)) is
    ∙ ap (λ text. replies_text voice (replies_to net before) ++ (text ++ rest))
    (append-nil (spell voice reply))

-- an ask that is not refused is answered on the network of its line
pub answered_reply : (net : Net) (number : ℕ) (ask : Ask3) → ask_fault net (session_ask ask) ≡ None
    → (step net (ask_on number ask)).reply
    ≡ Some (replies.Answered (session_ask ask) (answer_of net (session_ask ask)))
answered_reply net number ask accepted =
    ap (λ (fault : Option AskFault).
    (result_step net number (unless_refused (option_map (λ fault. refusals.Ask fault) fault)
    (effect_of net (commands.Ask ask)))).reply) accepted

-- an ask leaves the network
pub ask_keeps : (net : Net) (number : ℕ) (ask : Ask3) (fault : Option AskFault)
    → (result_step net number (unless_refused (option_map (λ fault. refusals.Ask fault) fault)
    (effect_of net (commands.Ask ask)))).next ≡ net
ask_keeps net number ask None = refl
ask_keeps net number ask (Some fault) = refl

-- ---- the network of each line is one

-- what pairs without a fault are, in the words of histograms, and what an edit keeps
abbrev pub Built : Type 0
Built = (scale : ℕ) (pairs : List (ℕ × ℕ)) → at_most_fault scale pairs ≡ None
    → IsTime (time_of pairs) × (total (time_of pairs) ≤ scale)

abbrev pub Kept : Type 0
Kept = (net : Net) (arc : ℕ) (time : List (ℕ × ℕ)) → IsNet net → IsTime time
    → total time ≤ net.scale → IsNet (replaced net arc time)

-- a refused command keeps the network
refused_keeps : (refusal : Option Refusal) (net : Net) (number : ℕ) (effect : Effect) → IsNet net
    → (refusal ≡ None → IsNet effect.next)
    → IsNet (result_step net number (unless_refused refusal effect)).next
refused_keeps (Some refusal) net number effect valid h = valid
refused_keeps None net number effect valid h = h refl

no_fault : {A B : Type 0} (f : A → B) (first : Option A) (rest : Option B)
    → option_or (option_map f first) rest ≡ None → first ≡ None
no_fault f (Some fault) rest e = absurd (cc)
no_fault f None rest e = refl

edit_keeps : Built → Kept → (net : Net) (arc : ℕ) (pairs : List (ℕ × ℕ)) → IsNet net
    → command_refusal net (commands.Edit arc pairs) ≡ None
    → IsNet (effect_of net (commands.Edit arc pairs)).next
edit_keeps built kept net arc pairs valid none =
    let time : at_most_fault net.scale pairs ≡ None =
    no_fault (λ (fault : HistFault). refusals.Time fault) (at_most_fault net.scale pairs)
    (arc_refusal net arc) none in
    let is = built net.scale pairs time in
    kept net arc (time_of pairs) valid is.0 is.1

-- a closed arc has a time without pairs
closed_time : IsTime []
closed_time = search rules

line_keeps : Built → Kept → (net : Net) (number : ℕ) (parsed : Result (Option Command) Refusal)
    → IsNet net → IsNet (parsed_step net number parsed).next
line_keeps built kept net number (Ok None) valid = valid
line_keeps built kept net number (Err refusal) valid = valid
line_keeps built kept net number (Ok (Some (commands.Edit arc pairs))) valid =
    refused_keeps (command_refusal net (commands.Edit arc pairs)) net number
    (effect_of net (commands.Edit arc pairs)) valid (edit_keeps built kept net arc pairs valid)
line_keeps built kept net number (Ok (Some (commands.Close arc))) valid =
    refused_keeps (command_refusal net (commands.Close arc)) net number
    (effect_of net (commands.Close arc)) valid
    (λ there. kept net arc [] valid closed_time (omega arith))
line_keeps built kept net number (Ok (Some (commands.Ask ask))) valid =
    refused_keeps (command_refusal net (commands.Ask ask)) net number
    (effect_of net (commands.Ask ask)) valid (λ accepted. valid)
line_keeps built kept net number (Ok (Some (commands.Policy ask name))) valid =
    refused_keeps (command_refusal net (commands.Policy ask name)) net number
    (effect_of net (commands.Policy ask name)) valid (λ accepted. valid)
line_keeps built kept net number (Ok (Some (commands.Bracket ask name))) valid =
    refused_keeps (command_refusal net (commands.Bracket ask name)) net number
    (effect_of net (commands.Bracket ask name)) valid (λ accepted. valid)
line_keeps built kept net number (Ok (Some (commands.Route dest budget arcs))) valid =
    refused_keeps (command_refusal net (commands.Route dest budget arcs)) net number
    (effect_of net (commands.Route dest budget arcs)) valid (λ accepted. valid)
line_keeps built kept net number (Ok (Some (commands.Need ask confidence))) valid =
    refused_keeps (command_refusal net (commands.Need ask confidence)) net number
    (effect_of net (commands.Need ask confidence)) valid (λ accepted. valid)

pub keeps_network : Built → Kept → (lines : List ScriptLine) (net : Net) → IsNet net
    → IsNet (network_after net lines)
keeps_network built kept [] net valid = valid
keeps_network built kept (line ∷ lines) net valid =
    keeps_network built kept lines (step net line).next
    (line_keeps built kept net line.number line.parsed valid)
