-- What an answered ask, and an accepted policy, mean for a traveller.
use Rattle.std.specs.Prelude.{◌≡◌, ◌≤◌, ◌+◌, ◌*◌, ◌^◌, ◌++◌, ◌∷◌, ℕ, List, Option, None, Ok}
use Rattle.std.specs.Option.{IsSomeAnd}
use Rattle.sota_units.specs.Rounding.{ONE}
use Rattle.sota_edge.specs.Desk.{Files}
use Rattle.sota_edge.specs.Sink.{SinkState, Wrote}
use Rattle.sota_network.specs.Network.{Net}
use Rattle.sota_network.specs.Grid.{choice}
use Rattle.sota_network.specs.Trees.{Tree, Encloses, Fits, score, follow}
use Rattle.sota_script.specs.declared.command.Ask3.{Ask3}
use Rattle.sota_session.specs.Asks.{ask_fault}
use Rattle.sota_session.specs.Plans.{plan_table}
use Rattle.sota_polfile.specs.Table.{Table}
use Rattle.sota_polfile.specs.Bracket.{Bracket}
use Rattle.sota_check.specs.Certified.{rule, IsCertified}
use Rattle.sota_check.specs.Bracketed.{bracket_rule, IsBracketed}
use Rattle.sota_replay.specs.Tally.{tally_after, trip_count}
use Rattle.sota_app.specs.declared.words.Trips.{Trips}
use Rattle.sota_app.specs.Words.{request_of}
use Rattle.sota_app.specs.Replies.{answer_line, spell, replies_text}
use Rattle.sota_app.specs.Script.{ScriptLine, ask_on, session_ask, network_after, replies_to}
use Rattle.sota_app.specs.Verdicts.{named, accepted_line, bracket_named, enclosed_line, trips_line}
use Rattle.sota_app.specs.Shown.{made_line}
use Rattle.sota_app.specs.declared.voice.Voice.{Voice}
use Rattle.sota_app.specs.declared.reply.Reply.TheVariants as replies
use Rattle.sota_app.specs.declared.status.Status.{Status}
use Rattle.sota_app.specs.declared.status.Status.TheVariants.{Done}
use Rattle.sota_app.specs.Outcome.{Job, play, judge, judge_bracket, replay, show, work_of}

-- an ask on the line of this number, between the lines above it and those below it, over the
-- network of the files, and the voice of the replies
pub record AskLine : Type 0 where
  pub voice : Voice
  pub net : Net
  pub above : List ScriptLine
  pub number : ℕ
  pub ask : Ask3
  pub below : List ScriptLine

-- the network of the line: the edits above it are done
abbrev pub line_net : AskLine → Net
line_net line = network_after line.net line.above

-- these lines are those above it, the line itself and those below it
abbrev pub IsAmong : AskLine → List ScriptLine → Type 0
IsAmong line lines = lines ≡ line.above ++ ask_on line.number line.ask ∷ line.below

-- no cause refuses the ask on its network
abbrev pub IsAccepted : AskLine → Type 0
IsAccepted line = ask_fault (line_net line) (session_ask line.ask) ≡ None

-- the words are a request with this line, and it is answered on its network
pub record IsAnswered (words : List (List ℕ)) (files : Files) (line : AskLine) : Type 0 where
  pub lines : List ScriptLine
  pub request : IsSomeAnd (request_of words) (λ request.
      work_of request files ≡ Ok (record { net = line.net; job = play line.voice lines }))
  pub place : IsAmong line lines
  pub accepted : IsAccepted line

-- the tree of a traveller who takes the chosen arc at each node and budget left
abbrev pub policy : Net → Ask3 → Tree
policy net ask = follow net (choice net ask.dest) ask.dest ask.origin ask.budget

-- Two bounds, in units of ten to the minus eighteenth, and an arc to take first. The bounds enclose
-- the greatest on-time probability of all decision trees. They differ by at most two units for each
-- tick of the budget, and the upper one is at most one. The policy, of which the arc is the first,
-- attains the lower bound.
pub record IsMeant (net : Net) (ask : Ask3) (lower upper : ℕ) (next : Option ℕ) : Type 0 where
  pub encloses : Encloses net ask.dest ask.origin ask.budget lower upper
  pub ordered : lower ≤ upper
  pub gap : upper ≤ lower + 2 * ask.budget
  pub whole : upper ≤ ONE
  pub first : next ≡ choice net ask.dest ask.origin ask.budget
  pub fits : Fits net ask.origin (policy net ask)
  pub attains : lower * net.scale ^ ask.budget
      ≤ ONE * score net ask.dest ask.origin ask.budget (policy net ask)

-- between the replies to the lines above and those to the lines below, a line was written that
-- spells 'answer O D T LOWER UPPER ARC' and is meant so
pub record Meant (line : AskLine) (old new : SinkState) : Type 0 where
  pub lower : ℕ
  pub upper : ℕ
  pub next : Option ℕ
  pub written : Wrote (replies_text line.voice (replies_to line.net line.above)
      ++ (spell line.voice (replies.Answered (session_ask line.ask)
      (record { lower = lower; upper = upper; next = next }))
      ++ replies_text line.voice (replies_to (line_net line) line.below))) old new
  pub meant : IsMeant (line_net line) line.ask lower upper next

-- ---- a policy that is accepted

-- the words are a request to do this on this network
abbrev pub IsJob : List (List ℕ) → Files → Net → Job → Type 0
IsJob words files net job = IsSomeAnd (request_of words) (λ request.
    work_of request files ≡ Ok (record { net = net; job = job }))

-- the words are a request to judge this policy on this network
abbrev pub IsJudged : List (List ℕ) → Files → Net → Table → Type 0
IsJudged words files net table = IsJob words files net (judge table)

-- the tree of a traveller who takes the arcs of a policy from its origin with its whole budget
abbrev pub journey : Net → Table → Tree
journey net table =
    follow net (rule table) table.head.dest table.head.origin table.head.budget

-- The line 'accepted O D T LOWER' was written, with the ask of the policy and the value that it
-- names, in units of ten to the minus eighteenth. Each entry of the policy holds. Who follows its
-- arcs arrives in time with at least that probability, and it is at most one.
pub record Attested (net : Net) (table : Table) (old new : SinkState) : Type 0 where
  pub written : Wrote (accepted_line (named table)) old new
  pub holds : IsCertified net table
  pub fits : Fits net table.head.origin (journey net table)
  pub attains : (named table).lower * net.scale ^ table.head.budget
      ≤ ONE * score net table.head.dest table.head.origin table.head.budget (journey net table)
  pub whole : (named table).lower ≤ ONE

-- ---- a bracket that is accepted

-- the words are a request to judge this bracket on this network
abbrev pub IsBracketJudged : List (List ℕ) → Files → Net → Bracket → Type 0
IsBracketJudged words files net table = IsJob words files net (judge_bracket table)

-- the tree of a traveller who takes the arcs of a bracket from its origin with its whole budget
abbrev pub bracket_journey : Net → Bracket → Tree
bracket_journey net table =
    follow net (bracket_rule table) table.head.dest table.head.origin table.head.budget

-- The line 'enclosed O D T LOWER UPPER' was written, with the ask of the bracket and the two bounds
-- that it names, in units of ten to the minus eighteenth. Each entry of the bracket holds. The
-- bounds enclose the greatest on-time probability of all decision trees, and who follows the arcs
-- of the bracket attains the lower one.
pub record Enclosed (net : Net) (table : Bracket) (old new : SinkState) : Type 0 where
  pub written : Wrote (enclosed_line (bracket_named table)) old new
  pub holds : IsBracketed net table
  pub encloses : Encloses net table.head.dest table.head.origin table.head.budget
      (bracket_named table).lower (bracket_named table).upper
  pub fits : Fits net table.head.origin (bracket_journey net table)
  pub attains : (bracket_named table).lower * net.scale ^ table.head.budget
      ≤ ONE * score net table.head.dest table.head.origin table.head.budget
      (bracket_journey net table)
  pub whole : (bracket_named table).upper ≤ ONE

-- ---- trips that follow a policy

-- the words are a request to replay trips that follow this policy on this network
abbrev pub IsReplayed : List (List ℕ) → Files → Net → Table → Trips → Type 0
IsReplayed words files net table trips = IsJob words files net (replay table trips)

-- The line 'trips N arrived A late B stuck C lost E' was written, with the tally of so many trips
-- by the words of the seed, of which each is counted once. Each entry of the policy holds.
pub record Replayed (net : Net) (table : Table) (trips : Trips) (old new : SinkState)
    : Type 0 where
  pub written : Wrote (trips_line trips.count
      (tally_after net table trips.count trips.seed)) old new
  pub whole : trip_count (tally_after net table trips.count trips.seed) ≡ trips.count
  pub holds : IsCertified net table

-- ---- the plan of a network that is made

-- the words are a request to plan this ask on this network, and it is not refused
pub record IsShown (words : List (List ℕ)) (files : Files) (net : Net) (ask : Ask3) : Type 0 where
  pub job : IsJob words files net (show ask)
  pub accepted : ask_fault net (session_ask ask) ≡ None

-- Three lines were written: 'made N M CELLS BYTES', a line 'answer O D T LOWER UPPER ARC' that is
-- meant so, and 'accepted O D T LOWER' with the same lower bound. Each entry of the policy holds.
pub record Shown (net : Net) (ask : Ask3) (status : Status) (old new : SinkState) : Type 0 where
  pub done : status ≡ Done
  pub lower : ℕ
  pub upper : ℕ
  pub next : Option ℕ
  pub written : Wrote (made_line net (plan_table net (session_ask ask))
      ++ (answer_line (session_ask ask) (record { lower = lower; upper = upper; next = next })
      ++ accepted_line (record {
        origin = ask.origin;
        dest = ask.dest;
        budget = ask.budget;
        lower = lower;
      }))) old new
  pub meant : IsMeant net ask lower upper next
  pub holds : IsCertified net (plan_table net (session_ask ask))
