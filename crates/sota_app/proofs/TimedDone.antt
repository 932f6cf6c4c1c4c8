-- An ask over periods of the clock that was answered: the line that was written.
use Rattle.std.proofs.Common.{ℕ, List, Option, None, Some, Result, Ok, Err, subst}
use Rattle.std.proofs.Common.{append-nil}
use Rattle.sota_edge.specs.Desk.{Files, DeskState}
use Rattle.sota_edge.specs.Sink.{SinkState, Wrote}
use Rattle.sota_network.specs.Network.{Net}
use Rattle.sota_period.specs.Periods.{first_net}
use Rattle.sota_period.specs.Answers.{timed_fault, timed_answer}
use Rattle.sota_period.specs.declared.plan.TimedAnswer.{TimedAnswer}
use Rattle.sota_period.specs.declared.fault.TimedFault.{TimedFault}
use Rattle.sota_app.specs.Outputs.{only_line}
use Rattle.sota_app.specs.TimedLines.{timed_line, planned_line, planned_status}
use Rattle.sota_app.specs.Outcome.{outcome_of, timed}
use Rattle.sota_app.specs.Causes.{Delivered}
use Rattle.sota_app.specs.declared.words.Request.{Request}
use Rattle.sota_app.specs.declared.words.TimedAsk.{TimedAsk}
use Rattle.sota_app.specs.declared.status.Status.TheVariants.{Done}
use Rattle.sota_app.proofs.Answered.{Means}
use Rattle.sota_app.proofs.Judged.{delivered}

abbrev pub by_fault : Option TimedFault → TimedAnswer → Result TimedAnswer TimedFault
by_fault found answer = elim found [ None ↦ Ok answer | Some fault ↦ Err fault ]

answered_by : (found : Option TimedFault) (answer : TimedAnswer) (asked : TimedAsk)
    (d e : DeskState) (s t : SinkState)
    → Delivered (record {
      outputs = only_line (planned_line asked (by_fault found answer));
      status = planned_status (by_fault found answer);
    }) Done d e s t
    → Wrote (timed_line asked answer) s t
answered_by None answer asked d e s t all =
    subst (λ text. Wrote text s t) (append-nil (timed_line asked answer)) all.made.text
answered_by (Some fault) answer asked d e s t all =
    absurd (let done = all.status_is in cc)

-- the answer over these periods
abbrev pub answer_over : List (ℕ × Net) → TimedAsk → TimedAnswer
answer_over periods asked = timed_answer periods asked.ask.origin asked.ask.dest
    asked.ask.budget asked.deadline

pub timed_done : (periods : List (ℕ × Net)) (asked : TimedAsk) (o : Option Request)
    (files : Files) (d e : DeskState) (s t : SinkState)
    → Means o files (record { net = first_net periods; job = timed periods asked })
    → Delivered (outcome_of o files) Done d e s t
    → Wrote (timed_line asked (answer_over periods asked)) s t
timed_done periods asked o files d e s t means all =
    answered_by
    (timed_fault periods asked.ask.origin asked.ask.dest asked.ask.budget)
    (answer_over periods asked) asked d e s t (delivered o files _ Done d e s t means all)
