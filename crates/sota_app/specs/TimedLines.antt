-- The reply to an ask whose travel times depend on the clock.
use Rattle.std.specs.Prelude.{ℕ, List, ◌++◌, Result, Ok, Err, codes, decimal}
use Rattle.sota_units.specs.GrainText.{grain_spelling}
use Rattle.sota_network.specs.Network.{Net}
use Rattle.sota_period.specs.Answers.{timed_result, timed_word, timed_count}
use Rattle.sota_period.specs.declared.plan.TimedAnswer.{TimedAnswer}
use Rattle.sota_period.specs.declared.fault.TimedFault.{TimedFault}
use Rattle.sota_app.specs.Replies.{number_text, count_text}
use Rattle.sota_app.specs.declared.words.TimedAsk.{TimedAsk}
use Rattle.sota_app.specs.declared.status.Status.{Status}
use Rattle.sota_app.specs.declared.status.Status.TheVariants.{Done, SomeRefused}

-- 'timed O D T A LOWER UPPER ARC'
abbrev pub timed_line : TimedAsk → TimedAnswer → List ℕ
timed_line asked answer =
    codes "timed " ++ decimal asked.ask.origin ++ codes " " ++ decimal asked.ask.dest
    ++ codes " " ++ decimal asked.ask.budget ++ codes " " ++ decimal asked.deadline
    ++ codes " " ++ grain_spelling answer.lower ++ codes " " ++ grain_spelling answer.upper
    ++ codes " " ++ number_text answer.next ++ codes "\n"

-- 'refused 1 CAUSE', with the count of a cause that has one
abbrev pub untimed_line : TimedFault → List ℕ
untimed_line fault =
    codes "refused 1 " ++ timed_word fault ++ count_text (timed_count fault) ++ codes "\n"

-- the answer of an ask, or why it is refused
abbrev pub planned : List (ℕ × Net) → TimedAsk → Result TimedAnswer TimedFault
planned periods asked = timed_result periods asked.ask.origin asked.ask.dest asked.ask.budget
    asked.deadline

abbrev pub planned_line : TimedAsk → Result TimedAnswer TimedFault → List ℕ
planned_line asked (Ok answer) = timed_line asked answer
planned_line asked (Err fault) = untimed_line fault

abbrev pub planned_status : Result TimedAnswer TimedFault → Status
planned_status (Ok answer) = Done
planned_status (Err fault) = SomeRefused
