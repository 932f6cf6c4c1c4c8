-- Each answer among the replies to lines is to an ask on one of them.
use Rattle.std.proofs.Common.{◌≡◌, ◌++◌, ◌∷◌, [], ℕ, List, Option, Some, None, Result, Ok, Err}
use Rattle.std.proofs.Common.{option_map, option_to_list, refl, sym, ap, ◌∙◌}
use Rattle.sota_network.specs.Network.{Net}
use Rattle.sota_script.specs.declared.command.Ask3.{Ask3}
use Rattle.sota_script.specs.declared.command.Command.{Command}
use Rattle.sota_script.specs.declared.command.Command.TheVariants as commands
use Rattle.sota_session.specs.Asks.{ask_fault}
use Rattle.sota_session.specs.declared.ask.Ask.{Ask}
use Rattle.sota_session.specs.declared.ask.Answer.{Answer}
use Rattle.sota_bounds.specs.declared.fault.AskFault.{AskFault}
use Rattle.sota_app.specs.Script.{ScriptLine, session_ask, step, parsed_step, result_step}
use Rattle.sota_app.specs.Script.{unless_refused, effect_of, command_refusal, replies_to}
use Rattle.sota_app.specs.Script.{network_after}
use Rattle.sota_app.specs.Laws.{IsAskedIn}
use Rattle.sota_app.specs.declared.voice.Voice.{Voice}
use Rattle.sota_app.specs.declared.reply.Reply.{Reply}
use Rattle.sota_app.specs.declared.reply.Reply.TheVariants as replies
use Rattle.sota_app.specs.declared.reply.Refusal.{Refusal}
use Rattle.sota_app.specs.declared.reply.Refusal.TheVariants as refusals

-- a line is parsed as an ask that is accepted on this network
record IsAskFor (net : Net) (parsed : Result (Option Command) Refusal) (ask : Ask) : Type 0 where
  numbers : Ask3
  is : parsed ≡ Ok (Some (commands.Ask numbers))
  ask_is : session_ask numbers ≡ ask
  accepted : ask_fault net (session_ask numbers) ≡ None

-- what a command is replied to, unless it is refused for this
abbrev pub reply_unless : Option Refusal → Net → ℕ → Command → Option Reply
reply_unless refusal net number command =
    (result_step net number (unless_refused refusal (effect_of net command))).reply

-- a command whose effect has another reply is not replied to with an answer
others_are_none : (net : Net) (number : ℕ) (command : Command) (ask : Ask) (answer : Answer)
    → ((effect_of net command).reply ≡ replies.Answered ask answer → ⊥)
    → (refusal : Option Refusal)
    → reply_unless refusal net number command ≡ Some (replies.Answered ask answer) → ⊥
others_are_none net number command ask answer other None e = other (cc)
others_are_none net number command ask answer other (Some refusal) e = cc

asks_are : (net : Net) (number : ℕ) (numbers : Ask3) (ask : Ask) (answer : Answer)
    (fault : Option AskFault) → ask_fault net (session_ask numbers) ≡ fault
    → reply_unless (option_map (λ fault. refusals.Ask fault) fault) net number
    (commands.Ask numbers)
    ≡ Some (replies.Answered ask answer)
    → IsAskFor net (Ok (Some (commands.Ask numbers))) ask
asks_are net number numbers ask answer None is e =
    record { numbers = numbers; is = refl; ask_is = cc; accepted = is }
asks_are net number numbers ask answer (Some fault) is e = absurd (cc)

answers_ask : (net : Net) (number : ℕ) (parsed : Result (Option Command) Refusal) (ask : Ask)
    (answer : Answer)
    → (parsed_step net number parsed).reply ≡ Some (replies.Answered ask answer)
    → IsAskFor net parsed ask
answers_ask net number (Ok None) ask answer e = absurd (cc)
answers_ask net number (Err refusal) ask answer e = absurd (cc)
answers_ask net number (Ok (Some (commands.Edit arc pairs))) ask answer e =
    absurd (others_are_none net number (commands.Edit arc pairs) ask answer (λ e. cc)
    (command_refusal net (commands.Edit arc pairs)) e)
answers_ask net number (Ok (Some (commands.Close arc))) ask answer e =
    absurd (others_are_none net number (commands.Close arc) ask answer (λ e. cc)
    (command_refusal net (commands.Close arc)) e)
answers_ask net number (Ok (Some (commands.Policy numbers name))) ask answer e =
    absurd (others_are_none net number (commands.Policy numbers name) ask answer (λ e. cc)
    (command_refusal net (commands.Policy numbers name)) e)
answers_ask net number (Ok (Some (commands.Bracket numbers name))) ask answer e =
    absurd (others_are_none net number (commands.Bracket numbers name) ask answer (λ e. cc)
    (command_refusal net (commands.Bracket numbers name)) e)
answers_ask net number (Ok (Some (commands.Route dest budget arcs))) ask answer e =
    absurd (others_are_none net number (commands.Route dest budget arcs) ask answer (λ e. cc)
    (command_refusal net (commands.Route dest budget arcs)) e)
answers_ask net number (Ok (Some (commands.Need numbers confidence))) ask answer e =
    absurd (others_are_none net number (commands.Need numbers confidence) ask answer (λ e. cc)
    (command_refusal net (commands.Need numbers confidence)) e)
answers_ask net number (Ok (Some (commands.Ask numbers))) ask answer e =
    asks_are net number numbers ask answer (ask_fault net (session_ask numbers)) refl e

first_line : (voice : Voice) (net : Net) (line : ScriptLine) (rest : List ScriptLine) (ask : Ask)
    → IsAskFor net line.parsed ask → IsAskedIn voice net (line ∷ rest) ask
first_line voice net line rest ask is = record {
  line = record {
    voice = voice;
    net = net;
    above = [];
    number = line.number;
    ask = is.numbers;
    below = rest;
  };
  voice_is = refl;
  net_is = refl;
  place = ap (λ (parsed : Result (Option Command) Refusal).
      record { number = line.number; parsed = parsed } ∷ rest) is.is;
  ask_is = is.ask_is;
  accepted = is.accepted;
}

later_line : (voice : Voice) (net : Net) (line : ScriptLine) (rest : List ScriptLine) (ask : Ask)
    → IsAskedIn voice (step net line).next rest ask → IsAskedIn voice net (line ∷ rest) ask
later_line voice net line rest ask is = record {
  line = record {
    voice = is.line.voice;
    net = net;
    above = line ∷ is.line.above;
    number = is.line.number;
    ask = is.line.ask;
    below = is.line.below;
  };
  voice_is = is.voice_is;
  net_is = refl;
  place = ap (λ more. line ∷ more) is.place;
  ask_is = is.ask_is;
  accepted = ap
      (λ (net : Net). ask_fault (network_after net is.line.above) (session_ask is.line.ask))
      (sym is.net_is) ∙ is.accepted;
}

by_reply : (voice : Voice) (net : Net) (line : ScriptLine) (rest : List ScriptLine)
    (before after : List Reply) (ask : Ask) (answer : Answer)
    → ((before : List Reply)
    → replies_to (step net line).next rest ≡ before ++ replies.Answered ask answer ∷ after
    → IsAskedIn voice (step net line).next rest ask)
    → (reply : Option Reply) → (step net line).reply ≡ reply
    → option_to_list reply ++ replies_to (step net line).next rest
    ≡ before ++ replies.Answered ask answer ∷ after
    → IsAskedIn voice net (line ∷ rest) ask
by_reply voice net line rest before after ask answer later None is e =
    later_line voice net line rest ask (later before e)
by_reply voice net line rest [] after ask answer later (Some reply) is e =
    first_line voice net line rest ask (answers_ask net line.number line.parsed ask answer (is ∙ cc))
by_reply voice net line rest (first ∷ before) after ask answer later (Some reply) is e =
    later_line voice net line rest ask (later before (cc))

pub answered_lines : (voice : Voice) (net : Net) (lines : List ScriptLine) (before after : List Reply)
    (ask : Ask) (answer : Answer)
    → replies_to net lines ≡ before ++ replies.Answered ask answer ∷ after
    → IsAskedIn voice net lines ask
answered_lines voice net [] [] after ask answer e = absurd (cc)
answered_lines voice net [] (first ∷ before) after ask answer e = absurd (cc)
answered_lines voice net (line ∷ rest) before after ask answer e =
    by_reply voice net line rest before after ask answer
    (λ before e. answered_lines voice (step net line).next rest before after ask answer e)
    (step net line).reply refl e
