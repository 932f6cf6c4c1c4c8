-- An ask that is answered: the text around its line, and that the network of its line is one.
use Rattle.std.proofs.Common.{◌≡◌, ◌++◌, ◌∷◌, ℕ, List, Option, Some, None, Ok}
use Rattle.std.proofs.Common.{[], IfSome, refl, ap, ◌∙◌, subst}
use Rattle.std.specs.Option.{IsSomeAnd}
use Rattle.sota_edge.specs.Desk.{Files, DeskState}
use Rattle.sota_edge.specs.Sink.{SinkState, Wrote}
use Rattle.sota_network.specs.Network.{Net, IsNet}
use Rattle.sota_session.specs.Asks.{answer_of}
use Rattle.sota_app.specs.Outputs.{text_of}
use Rattle.sota_app.specs.Replies.{spell, replies_text, outputs_of}
use Rattle.sota_app.specs.Script.{ScriptLine, ask_on, session_ask, replies_to}
use Rattle.sota_app.specs.Outcome.{Outcome, outcome_of, play, Work, work_of, work_outcome}
use Rattle.sota_app.specs.Causes.{Delivered}
use Rattle.sota_app.specs.Meaning.{AskLine, line_net, IsAmong, IsAnswered}
use Rattle.sota_app.specs.declared.voice.Voice.{Voice}
use Rattle.sota_app.specs.declared.reply.Reply.{Reply}
use Rattle.sota_app.specs.declared.reply.Reply.TheVariants as replies
use Rattle.sota_app.specs.declared.words.Request.{Request}
use Rattle.sota_app.specs.declared.status.Status.{Status}
use Rattle.sota_app.specs.Words.{IsSized}
use Rattle.sota_app.proofs.WorkValid.{Graphs, Texts, Weights, Makes, work_valid}
use Rattle.sota_app.proofs.EachLine.{line_in_text, answered_reply, ask_keeps}

-- the request means this work
abbrev pub Means : Option Request → Files → Work → Type 0
Means o files work = IsSomeAnd o (λ request. work_of request files ≡ Ok work)

-- the outcome of work that the files mean
pub work_done : (o : Option Request) (files : Files) (work : Work) → Means o files work
    → outcome_of o files ≡ work_outcome (Ok work)
work_done None files work h = absurd h
work_done (Some request) files work h = ap work_outcome h

pub text_replied : (voice : Voice) (replies : List Reply)
    → text_of (outputs_of voice replies) ≡ replies_text voice replies
text_replied voice [] = refl
text_replied voice (reply ∷ replies) =
    ap (λ text. spell voice reply ++ text) (text_replied voice replies)

-- the reply to the ask
abbrev pub line_reply : AskLine → Reply
line_reply line =
    replies.Answered (session_ask line.ask) (answer_of (line_net line) (session_ask line.ask))

-- what is written around the line
abbrev pub around_line : AskLine → List ℕ
around_line line =
    replies_text line.voice (replies_to line.net line.above)
    ++ (spell line.voice (line_reply line)
    ++ replies_text line.voice (replies_to (line_net line) line.below))

line_text : (line : AskLine) (words : List (List ℕ)) (files : Files) → IsAnswered words files line
    → replies_text line.voice
    (replies_to line.net (line.above ++ ask_on line.number line.ask ∷ line.below))
    ≡ around_line line
line_text line words files answered =
    line_in_text line.voice line.net line.above (ask_on line.number line.ask) line.below
    (line_reply line)
    (answered_reply (line_net line) line.number line.ask answered.accepted)
    ∙ ap (λ (net : Net). replies_text line.voice (replies_to line.net line.above)
    ++ (spell line.voice (line_reply line)
    ++ replies_text line.voice (replies_to net line.below)))
    (ask_keeps (line_net line) line.number line.ask _)

pub line_written : (line : AskLine) (words : List (List ℕ)) (o : Option Request) (files : Files)
    (result : Status) (d e : DeskState) (s t : SinkState) → IsAnswered words files line
    → (lines : List ScriptLine) → Means o files (record { net = line.net; job = play line.voice lines })
    → IsAmong line lines → Delivered (outcome_of o files) result d e s t
    → Wrote (around_line line) s t
line_written line words o files result d e s t answered lines work place all =
    subst (λ (text : List ℕ). Wrote text s t)
    (ap (λ (o : Outcome). text_of o.outputs) (work_done o files _ work)
    ∙ text_replied line.voice (replies_to line.net lines)
    ∙ ap (λ lines. replies_text line.voice (replies_to line.net lines)) place
    ∙ line_text line words files answered)
    all.made.text

-- the network of the line is one
pub means_network : Graphs → Texts → Weights → Makes → (o : Option Request) → IfSome o IsSized
    → (files : Files) (work : Work) → Means o files work → IsNet work.net
means_network graphs texts weights makes None sized files work h = absurd h
means_network graphs texts weights makes (Some request) sized files work h =
    work_valid graphs texts weights makes request sized files work h
