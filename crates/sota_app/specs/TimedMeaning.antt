-- What an ask means for a traveller where travel times depend on the clock.
use Rattle.std.specs.Prelude.{◌≤◌, ◌+◌, ◌*◌, ℕ, List, Option}
use Rattle.sota_units.specs.Rounding.{ONE}
use Rattle.sota_edge.specs.Desk.{Files}
use Rattle.sota_edge.specs.Sink.{SinkState, Wrote}
use Rattle.sota_network.specs.Network.{Net}
use Rattle.sota_period.specs.Periods.{ArePeriods, first_net, timed_net}
use Rattle.sota_period.specs.Trees.{TimedEncloses}
use Rattle.sota_app.specs.Meaning.{IsJob}
use Rattle.sota_app.specs.Outcome.{timed}
use Rattle.sota_app.specs.TimedLines.{timed_line}
use Rattle.sota_app.specs.declared.words.TimedAsk.{TimedAsk}

-- the words are a request to plan this over these periods of the clock
abbrev pub IsTimed : List (List ℕ) → Files → List (ℕ × Net) → TimedAsk → Type 0
IsTimed words files periods asked = IsJob words files (first_net periods) (timed periods asked)

-- The line 'timed O D T A LOWER UPPER ARC' was written, with what was asked. The bounds, in units
-- of ten to the minus eighteenth, enclose the greatest on-time probability of all decision trees
-- over these periods, where the clock shows A when the budget ends. They differ by at most two
-- units for each tick of the budget, and the upper one is at most one.
pub record TimedMeant (periods : List (ℕ × Net)) (asked : TimedAsk) (old new : SinkState)
    : Type 0 where
  pub lower : ℕ
  pub upper : ℕ
  pub next : Option ℕ
  pub written : Wrote (timed_line asked
      (record { lower = lower; upper = upper; next = next })) old new
  pub periods_are : ArePeriods periods
  pub encloses : TimedEncloses (timed_net periods asked.deadline) asked.ask.dest
      asked.ask.origin asked.ask.budget lower upper
  pub ordered : lower ≤ upper
  pub gap : upper ≤ lower + 2 * asked.ask.budget
  pub whole : upper ≤ ONE
