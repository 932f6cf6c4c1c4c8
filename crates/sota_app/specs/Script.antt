-- What the lines of a script do to a network, and what is replied to them. A reply may come with a
-- file, which is stored before it.
use Rattle.std.specs.Prelude.{ℕ, List, [], ◌∷◌, ◌++◌, map, fold, length, is_some}
use Rattle.std.specs.Prelude.{option_to_list}
use Rattle.std.specs.Prelude.{Option, Some, None, option_map, Result, Ok, Err, if◌then◌else◌}
use Rattle.std.specs.Option.{option_or}
use Rattle.sota_text.specs.Text.{numbered_lines}
use Rattle.sota_hist.specs.Build.{at_most_fault, time_of}
use Rattle.sota_network.specs.Network.{Net, arc_at, replaced}
use Rattle.sota_network.specs.Grid.{lo, hi}
use Rattle.sota_quantile.specs.Needs.{least_budget}
use Rattle.sota_script.specs.Lines.{parse_line}
use Rattle.sota_script.specs.declared.command.Ask3.{Ask3}
use Rattle.sota_script.specs.declared.command.Command.{Command}
use Rattle.sota_script.specs.declared.command.Command.TheVariants as commands
use Rattle.sota_script.specs.declared.fault.LineFault.{LineFault}
use Rattle.sota_polfile.specs.BracketFile.{bracket_spelling}
use Rattle.sota_polfile.specs.Spelling.{spelling}
use Rattle.sota_session.specs.Asks.{ask_fault, answer_of}
use Rattle.sota_session.specs.Brackets.{plan_bracket}
use Rattle.sota_session.specs.Plans.{plan_table}
use Rattle.sota_route.specs.Bounds.{route_answer}
use Rattle.sota_route.specs.Faults.{route_fault}
use Rattle.sota_report.specs.Resolved.{resolved}
use Rattle.sota_report.specs.declared.fault.ResolveFault.TheVariants as unresolved
use Rattle.sota_units.specs.Memory.{◌>>=◌, or_fault}
use Rattle.sota_session.specs.declared.ask.Ask.{Ask}
use Rattle.sota_session.specs.declared.edit.EditFault.TheVariants as edits
use Rattle.sota_app.specs.declared.reply.Allowance.{Allowance}
use Rattle.sota_app.specs.declared.reply.NamedFile.{NamedFile}
use Rattle.sota_app.specs.declared.reply.RouteReply.{RouteReply}
use Rattle.sota_app.specs.declared.reply.Reply.{Reply}
use Rattle.sota_app.specs.declared.reply.Reply.TheVariants as replies
use Rattle.sota_app.specs.declared.reply.Refusal.{Refusal}
use Rattle.sota_app.specs.declared.reply.Refusal.TheVariants as refusals
use Rattle.sota_app.specs.declared.voice.Voice.{Voice}
use Rattle.sota_app.specs.declared.voice.Voice.TheVariants as voices

-- ---- lines

-- a line's number, and what it is parsed as: a command, none, or why it is refused
pub record ScriptLine : Type 0 where
  pub number : ℕ
  pub parsed : Result (Option Command) Refusal

-- a line is refused for its fault
abbrev pub or_refused_line : {A : Type 0} → Result A LineFault → Result A Refusal
or_refused_line (Ok x) = Ok x
or_refused_line (Err fault) = Err (refusals.Line fault)

-- what a line is parsed as, as it is read in a voice: as it stands, or with numbers in the place of
-- the names of nodes, which come before all else
abbrev pub parse_in : Voice → List ℕ → Result (Option Command) Refusal
parse_in voices.Plain line = or_refused_line (parse_line line)
parse_in (voices.Json places) line = do
  line ← or_fault (refusals.Name unresolved.Place) (resolved places line)
  or_refused_line (parse_line line)

abbrev pub script_line : Voice → ℕ × List ℕ → ScriptLine
script_line voice line = record { number = line.0; parsed = parse_in voice line.1 }

-- the lines of a script, counted from 1, blank ones too
abbrev pub script_lines : Voice → List ℕ → List ScriptLine
script_lines voice script = map (script_line voice) (numbered_lines script)

-- a command on the line of this number
abbrev pub command_on : ℕ → Command → ScriptLine
command_on number command = record { number = number; parsed = Ok (Some command) }

-- an ask on the line of this number
abbrev pub ask_on : ℕ → Ask3 → ScriptLine
ask_on number ask = command_on number (commands.Ask ask)

-- ---- commands

abbrev pub session_ask : Ask3 → Ask
session_ask ask = record { origin = ask.origin; dest = ask.dest; budget = ask.budget }

-- an arc that is to be changed has to be there
abbrev pub arc_refusal : Net → ℕ → Option Refusal
arc_refusal net arc = if is_some (arc_at net arc) then None else Some (refusals.Edit edits.NoArc)

abbrev pub ask_refusal : Net → Ask3 → Option Refusal
ask_refusal net ask = option_map (λ fault. refusals.Ask fault) (ask_fault net (session_ask ask))

-- the first cause for which a command is refused
abbrev pub command_refusal : Net → Command → Option Refusal
command_refusal net (commands.Edit arc pairs) =
    option_or (option_map (λ fault. refusals.Time fault) (at_most_fault net.scale pairs))
    (arc_refusal net arc)
command_refusal net (commands.Close arc) = arc_refusal net arc
command_refusal net (commands.Ask ask) = ask_refusal net ask
command_refusal net (commands.Policy ask name) = ask_refusal net ask
command_refusal net (commands.Bracket ask name) = ask_refusal net ask
command_refusal net (commands.Route dest budget arcs) =
    option_map (λ fault. refusals.Route fault) (route_fault net dest budget arcs)
command_refusal net (commands.Need ask confidence) = ask_refusal net ask

-- the policy of an ask under a name
abbrev pub policy_file : Net → Ask3 → List ℕ → NamedFile
policy_file net ask name =
    record { name = name; bytes = spelling (plan_table net (session_ask ask)) }

-- the bracket of an ask under a name
abbrev pub bracket_file : Net → Ask3 → List ℕ → NamedFile
bracket_file net ask name =
    record { name = name; bytes = bracket_spelling (plan_bracket net (session_ask ask)) }

-- the two bounds of a route, with what they are of
abbrev pub route_of : Net → ℕ → ℕ → List ℕ → RouteReply
route_of net dest budget arcs = record {
  dest = dest;
  budget = budget;
  answer = route_answer net dest arcs budget;
  arcs = length arcs;
}

-- the time that one must allow for a confidence, by the two bounds of each budget of at most the
-- ask's
abbrev pub allowance_of : Net → Ask3 → ℕ → Allowance
allowance_of net ask confidence = record {
  ask = session_ask ask;
  confidence = confidence;
  need = record {
    early = least_budget (hi net ask.dest ask.origin) confidence ask.budget;
    sure = least_budget (lo net ask.dest ask.origin) confidence ask.budget;
  };
}

-- the reply to a command that is not refused, and the network of the lines below it
pub record Effect : Type 0 where
  pub reply : Reply
  pub next : Net

abbrev pub effect_of : Net → Command → Effect
effect_of net (commands.Edit arc pairs) =
    record { reply = replies.Edited arc; next = replaced net arc (time_of pairs) }
effect_of net (commands.Close arc) =
    record { reply = replies.Closed arc; next = replaced net arc [] }
effect_of net (commands.Ask ask) = record {
  reply = replies.Answered (session_ask ask) (answer_of net (session_ask ask));
  next = net;
}
effect_of net (commands.Policy ask name) = record {
  reply = replies.Stored (policy_file net ask name);
  next = net;
}
effect_of net (commands.Bracket ask name) = record {
  reply = replies.Stored (bracket_file net ask name);
  next = net;
}
effect_of net (commands.Route dest budget arcs) =
    record { reply = replies.Routed (route_of net dest budget arcs); next = net }
effect_of net (commands.Need ask confidence) =
    record { reply = replies.Allowed (allowance_of net ask confidence); next = net }

abbrev pub unless_refused : Option Refusal → Effect → Result Effect Refusal
unless_refused (Some refusal) effect = Err refusal
unless_refused None effect = Ok effect

-- what a command does, or why it is refused
abbrev pub command_result : Net → Command → Result Effect Refusal
command_result net command = unless_refused (command_refusal net command) (effect_of net command)

-- ---- one line

-- the reply to a line, if there is one, and the network of the lines below it
pub record Step : Type 0 where
  pub reply : Option Reply
  pub next : Net

-- a line that is refused changes nothing
abbrev pub result_step : Net → ℕ → Result Effect Refusal → Step
result_step net number (Ok effect) = record { reply = Some effect.reply; next = effect.next }
result_step net number (Err refusal) =
    record { reply = Some (replies.Refused number refusal); next = net }

-- blank lines and comments have no reply
abbrev pub parsed_step : Net → ℕ → Result (Option Command) Refusal → Step
parsed_step net number (Ok None) = record { reply = None; next = net }
parsed_step net number (Ok (Some command)) = result_step net number (command_result net command)
parsed_step net number (Err refusal) = result_step net number (Err refusal)

-- a line looks at the lines above it only through the network
abbrev pub step : Net → ScriptLine → Step
step net line = parsed_step net line.number line.parsed

-- ---- several lines

-- the network below these lines
abbrev pub network_after : Net → List ScriptLine → Net
network_after net lines = fold (λ net line. (step net line).next) net lines

-- the replies to these lines, in order
abbrev pub replies_to : Net → List ScriptLine → List Reply
replies_to net [] = []
replies_to net (line ∷ lines) =
    option_to_list (step net line).reply ++ replies_to (step net line).next lines
