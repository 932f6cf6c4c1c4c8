-- What the reply to a route or a need means, on whichever line it stands.
use Rattle.std.specs.Prelude.{ℕ, ◌≡◌, ◌<◌, ◌≤◌, ◌++◌, ◌∷◌, List, length, None, Some, Ok}
use Rattle.std.specs.Option.{IsSomeAnd}
use Rattle.sota_edge.specs.Desk.{Files}
use Rattle.sota_edge.specs.Sink.{SinkState, Wrote}
use Rattle.sota_network.specs.Network.{Net}
use Rattle.sota_script.specs.declared.command.Ask3.{Ask3}
use Rattle.sota_script.specs.declared.command.Command.{Command}
use Rattle.sota_route.specs.Bounds.{IsRouteBracket}
use Rattle.sota_route.specs.Routes.{start_of}
use Rattle.sota_route.specs.declared.bracket.RouteAnswer.{RouteAnswer}
use Rattle.sota_quantile.specs.Needs.{ReachesWith}
use Rattle.sota_quantile.specs.declared.need.Need.{Need}
use Rattle.sota_app.specs.Words.{request_of}
use Rattle.sota_app.specs.Outcome.{play, work_of}
use Rattle.sota_app.specs.Replies.{spell, replies_text}
use Rattle.sota_app.specs.Script.{ScriptLine, command_on, session_ask, command_refusal, effect_of}
use Rattle.sota_app.specs.Script.{network_after, replies_to}
use Rattle.sota_app.specs.declared.voice.Voice.{Voice}
use Rattle.sota_app.specs.declared.reply.Reply.{Reply}
use Rattle.sota_app.specs.declared.reply.Reply.TheVariants as replies

-- a command on the line of this number, between the lines above it and those below it, over the
-- network of the files, and the voice of the replies
pub record CommandLine : Type 0 where
  pub voice : Voice
  pub net : Net
  pub above : List ScriptLine
  pub number : ℕ
  pub command : Command
  pub below : List ScriptLine

-- the network of the line: the edits above it are done
abbrev pub command_net : CommandLine → Net
command_net line = network_after line.net line.above

-- the words are a request with this line, and no cause refuses its command on its network
pub record IsDone (words : List (List ℕ)) (files : Files) (line : CommandLine) : Type 0 where
  pub lines : List ScriptLine
  pub request : IsSomeAnd (request_of words) (λ request.
      work_of request files ≡ Ok (record { net = line.net; job = play line.voice lines }))
  pub place : lines ≡ line.above ++ command_on line.number line.command ∷ line.below
  pub accepted : command_refusal (command_net line) line.command ≡ None

-- between the replies to the lines above and those to the lines below, this reply was written
abbrev pub Replied : CommandLine → Reply → SinkState → SinkState → Type 0
Replied line reply old new = Wrote (replies_text line.voice (replies_to line.net line.above)
    ++ (spell line.voice reply ++ replies_text line.voice
    (replies_to (effect_of (command_net line) line.command).next line.below)))
    old new

-- A line was written that spells 'route D T LOWER UPPER K'. Its two bounds enclose the exact chance
-- of keeping to the route, they differ by at most a unit an arc, and the lower one is at most the
-- upper bound of an ask from where it begins.
pub record Routed (line : CommandLine) (dest budget : ℕ) (arcs : List ℕ) (old new : SinkState)
    : Type 0 where
  pub answer : RouteAnswer
  pub written : Replied line (replies.Routed (record {
    dest = dest;
    budget = budget;
    answer = answer;
    arcs = length arcs;
  })) old new
  pub meant : (o : ℕ) → start_of (command_net line) arcs ≡ Some o
      → IsRouteBracket (command_net line) dest arcs o budget answer

-- A line was written that spells 'need O D CONF TMAX EARLY SURE'. No decision tree arrives with the
-- confidence within less time than EARLY, or within TMAX where it is none, and one does within
-- SURE.
pub record Allowed (line : CommandLine) (ask : Ask3) (confidence : ℕ) (old new : SinkState)
    : Type 0 where
  pub need : Need
  pub written : Replied line (replies.Allowed (record {
    ask = session_ask ask;
    confidence = confidence;
    need = need;
  })) old new
  pub none : (t : ℕ) → need.early ≡ None → t ≤ ask.budget
      → ReachesWith (command_net line) ask.dest ask.origin confidence t → ⊥
  pub too_early : (early t : ℕ) → need.early ≡ Some early → t < early
      → ReachesWith (command_net line) ask.dest ask.origin confidence t → ⊥
  pub in_time : (sure : ℕ) → need.sure ≡ Some sure
      → ReachesWith (command_net line) ask.dest ask.origin confidence sure
