-- How a call for a request ended: by the reading of its inputs and what was then made.
use Rattle.std.proofs.Common.{◌≡◌, List, [], ◌∷◌, Bool, true, false, Option, Some, None, Result, Ok}
use Rattle.std.proofs.Common.{Err, IfOk, refl, sym, ap, subst, inl, inr, arith}
use Rattle.sota_edge.specs.Counts.{Rose}
use Rattle.sota_edge.specs.Desk.{Files, DeskState}
use Rattle.sota_edge.specs.Sink.{SinkState}
use Rattle.sota_network.specs.Network.{Net}
use Rattle.sota_check.specs.Rejected.{rejection}
use Rattle.sota_check.specs.BracketRejected.{bracket_rejection}
use Rattle.sota_app.specs.Outputs.{Output, NextBegun, Begun, StoreMissed, Stopped, Ends, LineEnds}
use Rattle.sota_app.specs.Outputs.{only_line}
use Rattle.sota_app.specs.Replies.{some_refused, lines_status}
use Rattle.sota_app.specs.Verdicts.{verdict_status}
use Rattle.sota_app.specs.Script.{session_ask, replies_to}
use Rattle.sota_app.specs.Shown.{plan_result}
use Rattle.sota_app.specs.declared.showing.Plan.{Plan}
use Rattle.sota_session.specs.declared.ask.Ask.{Ask}
use Rattle.sota_bounds.specs.declared.fault.AskFault.{AskFault}
use Rattle.sota_app.specs.InputFaults.{fault_line}
use Rattle.sota_app.specs.Outcome.{Outcome, outcome_of, Job, play, judge, judge_bracket, replay, show}
use Rattle.sota_app.specs.Outcome.{timed, Work, work_of, work_outcome}
use Rattle.sota_app.specs.TimedLines.{planned, planned_status}
use Rattle.sota_period.specs.declared.plan.TimedAnswer.{TimedAnswer}
use Rattle.sota_period.specs.declared.fault.TimedFault.{TimedFault}
use Rattle.sota_app.specs.Outcome.{plan_outcome, job_outcome, refused_words}
use Rattle.sota_app.specs.Causes.{Cause, Ended, Delivered, Known, Took, UnreadInput, Stands}
use Rattle.sota_app.specs.Causes.{CanMiss, status_of}
use Rattle.sota_app.specs.Inputs.{OnlyTook, InputAnswers, NoInputWritten}
use Rattle.sota_app.specs.declared.input.InputFault.{InputFault}
use Rattle.sota_app.specs.declared.input.NoInput.{NoInput}
use Rattle.sota_app.specs.declared.input.NoInput.TheVariants as ends
use Rattle.sota_app.specs.declared.words.Request.{Request}
use Rattle.sota_app.specs.declared.status.Status.{Status}
use Rattle.sota_app.specs.declared.status.Status.TheVariants.{Input, Words, WriteFault, NoMemory}
use Rattle.sota_app.specs.declared.stop.Stop.{Stop}
use Rattle.sota_app.specs.declared.stop.Stop.TheVariants as stops
use Rattle.sota_app.proofs.Known.{known_map, of_all}
use Rattle.sota_app.proofs.Made.{begun_by, none_begun, last_ends, only_line_ends}

-- ---- how far it came

next_caused : (Old New : Type 0) (made left : List Output) (d e : Option Files) (s t : SinkState)
    → (Old → New) → NextBegun Old made left d e s t → NextBegun New made left d e s t
next_caused Old New made [] d e s t f h = h
next_caused Old New made (next ∷ left) d e s t f h = elim h [
  | inl whole ↦ inl whole
  | inr more ↦ elim more [
    | inl line ↦ inr (inl line)
    | inr file ↦ inr (inr (f file.0, file.1))
  ]
]

-- with another cause for a file that was missed
caused : (Old New : Type 0) (outputs : List Output) (d e : Option Files) (s t : SinkState)
    → (Old → New) → Begun Old outputs d e s t → Begun New outputs d e s t
caused Old New outputs d e s t f begun = record {
  made = begun.made;
  left = begun.left;
  all = begun.all;
  next = next_caused Old New begun.made begun.left d e s t f begun.next;
}

stopped_begun : (stop : Stop) (outputs : List Output) (d e : DeskState) (s t : SinkState)
    → Stopped stop outputs d e s t
    → Begun (CanMiss (status_of (Err stop)) d e) outputs d.holds e.holds s t
stopped_begun stops.PutFailed outputs d e s t h =
    caused ⊥ (CanMiss WriteFault d e) outputs d.holds e.holds s t (λ none. absurd none) h.1
stopped_begun stops.StoreFailed outputs d e s t h = record {
  made = h.1.made;
  left = record { file = Some h.1.file; line = h.1.line } ∷ h.1.left;
  all = h.1.all;
  next = inr (inr (inl h.0, h.1.missed));
}
stopped_begun stops.NoMemory outputs d e s t h =
    caused (Unit {0}) (CanMiss NoMemory d e) outputs d.holds e.holds s t (λ any. inr refl) h

ends_begun : (result : Result Status Stop) (outputs : List Output) (d e : DeskState)
    (s t : SinkState) → Ends result outputs d e s t
    → Begun (CanMiss (status_of result) d e) outputs d.holds e.holds s t
ends_begun (Ok status) outputs d e s t h =
    begun_by (CanMiss status d e) outputs d.holds e.holds s t h.0
ends_begun (Err stop) outputs d e s t h = stopped_begun stop outputs d e s t h

-- the same of the outcome of what was read
begun_at : (request : Request) (read : Result Work NoInput) (result : Result Status Stop)
    (d e : DeskState) (s t : SinkState) → Known d (λ files. work_of request files ≡ read)
    → Ends result (work_outcome read).outputs d e s t
    → Known d (λ files. Begun (CanMiss (status_of result) d e)
    (outcome_of (Some request) files).outputs d.holds e.holds s t)
begun_at request read result d e s t known h =
    known_map d.holds _ _ (λ files inputs.
    subst (λ (outputs : List Output).
    Begun (CanMiss (status_of result) d e) outputs d.holds e.holds s t)
    (sym (ap (λ (r : Result Work NoInput). (work_outcome r).outputs) inputs))
    (ends_begun result (work_outcome read).outputs d e s t h)) known

-- ---- causes

-- where all of it was made, the outcome stands
stands_at : (request : Request) (read : Result Work NoInput) (status : Status) (d e : DeskState)
    (s t : SinkState) → Known d (λ files. work_of request files ≡ read)
    → Delivered (work_outcome read) status d e s t
    → Stands status (Some request) d e s t
stands_at request read status d e s t known delivered =
    known_map d.holds _ _ (λ files inputs.
    subst (λ (o : Outcome). Delivered o status d e s t) (sym (ap work_outcome inputs)) delivered)
    known

stop_cause : (stop : Stop) (request : Request) (read : Result Work NoInput) (d e : DeskState)
    (s t : SinkState) → Known d (λ files. work_of request files ≡ read)
    → Stopped stop (work_outcome read).outputs d e s t
    → Cause (status_of (Err stop)) (Some request) d e s t
stop_cause stops.PutFailed request read d e s t known h = inl h.0
stop_cause stops.StoreFailed request read d e s t known h = inr (
  h.0,
  known_map d.holds _ _ (λ files inputs.
      subst (λ (outputs : List Output). StoreMissed outputs d.holds e s t)
      (sym (ap (λ (r : Result Work NoInput). (work_outcome r).outputs) inputs)) h.1) known,
)
stop_cause stops.NoMemory request read d e s t known h = tt

-- ---- the inputs were read

lines_cause : (refused : Bool) (request : Request) (d e : DeskState) (s t : SinkState)
    → Stands (lines_status refused) (Some request) d e s t
    → Cause (lines_status refused) (Some request) d e s t
lines_cause true request d e s t stands = stands
lines_cause false request d e s t stands = stands

verdict_cause : {A : Type 0} (cause : Option A) (request : Request) (d e : DeskState)
    (s t : SinkState) → Stands (verdict_status cause) (Some request) d e s t
    → Cause (verdict_status cause) (Some request) d e s t
verdict_cause None request d e s t stands = stands
verdict_cause (Some cause) request d e s t stands = stands

shown_cause : (net : Net) (ask : Ask) (result : Result Plan AskFault) (request : Request)
    (d e : DeskState) (s t : SinkState)
    → Stands (plan_outcome net ask result).status (Some request) d e s t
    → Cause (plan_outcome net ask result).status (Some request) d e s t
shown_cause net ask (Ok plan) request d e s t stands =
    verdict_cause (rejection net plan.table) request d e s t stands
shown_cause net ask (Err fault) request d e s t stands = stands

planned_cause : (made : Result TimedAnswer TimedFault) (request : Request) (d e : DeskState)
    (s t : SinkState) → Stands (planned_status made) (Some request) d e s t
    → Cause (planned_status made) (Some request) d e s t
planned_cause (Ok answer) request d e s t stands = stands
planned_cause (Err fault) request d e s t stands = stands

done_cause : (net : Net) (job : Job) (request : Request) (d e : DeskState) (s t : SinkState)
    → Stands (job_outcome net job).status (Some request) d e s t
    → Cause (job_outcome net job).status (Some request) d e s t
done_cause net (play voice lines) request d e s t stands =
    lines_cause (some_refused (replies_to net lines)) request d e s t stands
done_cause net (judge table) request d e s t stands =
    verdict_cause (rejection net table) request d e s t stands
done_cause net (judge_bracket table) request d e s t stands =
    verdict_cause (bracket_rejection net table) request d e s t stands
done_cause net (replay table trips) request d e s t stands =
    verdict_cause (rejection net table) request d e s t stands
done_cause net (show ask) request d e s t stands =
    shown_cause net (session_ask ask) (plan_result net (session_ask ask)) request d e s t stands
done_cause net (timed periods asked) request d e s t stands =
    planned_cause (planned periods asked) request d e s t stands

ok_cause : (work : Work) (request : Request) (result : Result Status Stop) (d e : DeskState)
    (s t : SinkState) → Known d (λ files. work_of request files ≡ Ok work)
    → Ends result (job_outcome work.net work.job).outputs d e s t
    → IfOk result (λ status. status ≡ (job_outcome work.net work.job).status)
    → Cause (status_of result) (Some request) d e s t
ok_cause work request (Ok status) d e s t known made is =
    subst (λ (status : Status). Cause status (Some request) d e s t) (sym is)
    (done_cause work.net work.job request d e s t
    (stands_at request (Ok work) _ d e s t known
    (record { status_is = refl; made = made.0 })))
ok_cause work request (Err stop) d e s t known stopped is =
    stop_cause stop request (Ok work) d e s t known stopped

-- the loads of the inputs left what is held and the count of stores
since_loads : {A : Type 0} (result : Result A Stop) (outputs : List Output) (d m e : DeskState)
    (s t : SinkState) → OnlyTook d m → Ends result outputs m e s t → Ends result outputs d e s t
since_loads (Ok value) outputs d m e s t took h = (
  rw (sym took.holds) h.0,
  omega (arith, took.stores, h.1),
  h.2,
)
since_loads (Err stops.PutFailed) outputs d m e s t took h = (h.0, rw (sym took.holds) h.1)
since_loads (Err stops.StoreFailed) outputs d m e s t took h = (
  subst (λ count. Rose count e.store_faults) took.stores h.0,
  rw (sym took.holds) h.1,
)
since_loads (Err stops.NoMemory) outputs d m e s t took h = rw (sym took.holds) h

pub ok_ended : {T : Type 0} (view : T → Work) (request : Request) (task : T)
    (result : Result Status Stop) (d m e : DeskState) (s t : SinkState)
    → InputAnswers view (Ok task) (work_of request) (UnreadInput request) d m
    → Ends result (job_outcome (view task).net (view task).job).outputs m e s t
    → IfOk result (λ status. status ≡ (job_outcome (view task).net (view task).job).status)
    → Ended (status_of result) (Some request) d e s t
ok_ended view request task result d m e s t read ends is =
    let made = since_loads result (job_outcome (view task).net (view task).job).outputs
    d m e s t read.0 ends in
    record {
      cause = ok_cause (view task) request result d e s t read.1 made is;
      begun = begun_at request (Ok (view task)) result d e s t read.1 made;
    }

-- ---- an input was not

fault_cause : (fault : InputFault) (request : Request) (result : Result Status Stop)
    (d e : DeskState) (s t : SinkState) → Took fault d e
    → Known d (λ files. work_of request files ≡ Err (ends.Fault fault))
    → Ends result (only_line (fault_line fault)) d e s t
    → LineEnds result (fault_line fault) s t → IfOk result (λ status. status ≡ Input)
    → Cause (status_of result) (Some request) d e s t
fault_cause fault request (Ok status) d e s t took known made line is =
    subst (λ (status : Status). Cause status (Some request) d e s t) (sym is) (
      stands_at request (Err (ends.Fault fault)) Input d e s t known
          (record { status_is = refl; made = made.0 }),
      (fault, line.0, took),
    )
fault_cause fault request (Err stop) d e s t took known stopped line is =
    stop_cause stop request (Err (ends.Fault fault)) d e s t known stopped

fault_ended : (fault : InputFault) (request : Request) (result : Result Status Stop)
    (d e : DeskState) (s t : SinkState) → OnlyTook d e → Took fault d e
    → Known d (λ files. work_of request files ≡ Err (ends.Fault fault))
    → LineEnds result (fault_line fault) s t → IfOk result (λ status. status ≡ Input)
    → Ended (status_of result) (Some request) d e s t
fault_ended fault request result d e s t only took known line is =
    let made = only_line_ends result (fault_line fault) d e s t only.holds
    (omega (arith, only.stores)) line in
    record {
      cause = fault_cause fault request result d e s t took known made line is;
      begun = begun_at request (Err (ends.Fault fault)) result d e s t known made;
    }

pub err_ended : {T : Type 0} (view : T → Work) (request : Request) (end : NoInput)
    (result : Result Status Stop) (d e : DeskState) (s t : SinkState)
    → InputAnswers view (Err end) (work_of request) (UnreadInput request) d e
    → NoInputWritten end result s t
    → Ended (status_of result) (Some request) d e s t
err_ended view request (ends.Fault fault) result d e s t read written =
    fault_ended fault request result d e s t read.0 read.1 read.2 written.0 written.1
err_ended view request ends.Unread result d e s t read written = record {
  cause = subst (λ (result : Result Status Stop). Cause (status_of result) (Some request) d e s t)
      (sym written.0) (read.0, written.1, read.1);
  begun = of_all d.holds _ (λ files. none_begun _ _ d.holds e.holds s t read.1 written.1);
}
err_ended view request ends.NoMemory result d e s t read written = record {
  cause = subst (λ (result : Result Status Stop). Cause (status_of result) (Some request) d e s t)
      (sym written.0) tt;
  begun = of_all d.holds _ (λ files. none_begun _ _ d.holds e.holds s t read written.1);
}

-- ---- the words are no request

words_cause : (result : Result Status Stop) (d : DeskState) (s t : SinkState)
    → LineEnds result refused_words s t → IfOk result (λ status. status ≡ Words)
    → (result ≡ Err stops.NoMemory → Rose s.shortages t.shortages)
    → Cause (status_of result) None d d s t
words_cause (Ok status) d s t line is short =
    subst (λ (status : Status). Cause status None d d s t) (sym is) (refl, line.0, refl)
words_cause (Err stops.PutFailed) d s t line is short = inl line.1
words_cause (Err stops.StoreFailed) d s t line is short = absurd line
words_cause (Err stops.NoMemory) d s t line is short = short refl

pub words_ended : (result : Result Status Stop) (d : DeskState) (s t : SinkState)
    → LineEnds result refused_words s t → IfOk result (λ status. status ≡ Words)
    → (result ≡ Err stops.NoMemory → Rose s.shortages t.shortages)
    → Ended (status_of result) None d d s t
words_ended result d s t line is short = record {
  cause = words_cause result d s t line is short;
  begun = of_all d.holds _ (λ files. ends_begun result (only_line refused_words) d d s t
      (last_ends result refused_words d s t line));
}
