-- The plan of a network that is made: what is written where its policy holds.
use Rattle.std.proofs.Common.{◌≡◌, ◌++◌, ℕ, List, Bool, true, false, Option, Some, None}
use Rattle.std.proofs.Common.{Result, Ok, Err, IfOk, refl, sym, ◌∙◌, subst, append-nil}
use Rattle.sota_units.specs.Memory.{Unless}
use Rattle.sota_edge.specs.Desk.{DeskState}
use Rattle.sota_edge.specs.Sink.{SinkState, Wrote}
use Rattle.sota_network.specs.Network.{Net}
use Rattle.sota_network.specs.Grid.{lo}
use Rattle.sota_check.specs.Rejected.{rejection}
use Rattle.sota_check.specs.Certified.{value}
use Rattle.sota_session.specs.Asks.{ask_fault, answer_of}
use Rattle.sota_session.specs.Plans.{plan_table}
use Rattle.sota_session.specs.declared.ask.Ask.{Ask}
use Rattle.sota_bounds.specs.declared.fault.AskFault.{AskFault}
use Rattle.sota_app.specs.Outputs.{only_line, Ends, LineEnds}
use Rattle.sota_app.specs.Replies.{answer_line, refused_line}
use Rattle.sota_app.specs.Verdicts.{named, accepted_line, verdict_status}
use Rattle.sota_app.specs.Shown.{made_line, plan_result, HoldsUnlessRefused}
use Rattle.sota_app.specs.Outcome.{Outcome, shown}
use Rattle.sota_app.specs.Causes.{Delivered}
use Rattle.sota_app.specs.Inputs.{NoInputWritten, IsWorked}
use Rattle.sota_app.specs.declared.input.NoInput.{NoInput}
use Rattle.sota_app.specs.declared.input.NoInput.TheVariants as ends
use Rattle.sota_app.specs.declared.status.Status.{Status}
use Rattle.sota_app.specs.declared.status.Status.TheVariants.{Done}
use Rattle.sota_app.specs.declared.stop.Stop.{Stop}
use Rattle.sota_app.specs.declared.stop.Stop.TheVariants as stops
use Rattle.sota_app.specs.declared.reply.Refusal.TheVariants as refusals
use Rattle.sota_app.proofs.Made.{nothing_made, last_ends}

-- the three lines with an accepted policy
abbrev pub accepted_plan : Net → Ask → Outcome
accepted_plan net ask = record {
  outputs = only_line (made_line net (plan_table net ask))
      ++ (only_line (answer_line ask (answer_of net ask))
      ++ only_line (accepted_line (named (plan_table net ask))));
  status = Done;
}

shown_is : (net : Net) (ask : Ask) → ask_fault net ask ≡ None
    → rejection net (plan_table net ask) ≡ None → shown net ask ≡ accepted_plan net ask
shown_is net ask answered passes = rw answered (rw passes refl)

-- the accepted line has the lower bound of the answer
abbrev pub bound_line : Net → Ask → List ℕ
bound_line net ask = accepted_line (record {
  origin = ask.origin;
  dest = ask.dest;
  budget = ask.budget;
  lower = lo net ask.dest ask.origin ask.budget;
})

line_is : (net : Net) (ask : Ask)
    → value (plan_table net ask) ask.origin ask.budget ≡ lo net ask.dest ask.origin ask.budget
    → accepted_line (named (plan_table net ask)) ≡ bound_line net ask
unfolding plan_table
line_is net ask bound = rw bound refl

pub record IsWritten (net : Net) (ask : Ask) (status : Status) (s t : SinkState) : Type 0 where
  pub done : status ≡ Done
  pub written : Wrote (made_line net (plan_table net ask)
      ++ (answer_line ask (answer_of net ask) ++ bound_line net ask)) s t

pub shown_done : (net : Net) (ask : Ask) (status : Status) (d e : DeskState) (s t : SinkState)
    → ask_fault net ask ≡ None → rejection net (plan_table net ask) ≡ None
    → value (plan_table net ask) ask.origin ask.budget ≡ lo net ask.dest ask.origin ask.budget
    → Delivered (shown net ask) status d e s t → IsWritten net ask status s t
shown_done net ask status d e s t answered passes bound all =
    let three = subst (λ (outcome : Outcome). Delivered outcome status d e s t)
    (shown_is net ask answered passes) all in
    record {
      done = sym three.status_is;
      written = subst (λ (last : List ℕ). Wrote (made_line net (plan_table net ask)
          ++ (answer_line ask (answer_of net ask) ++ last)) s t)
          (append-nil _ ∙ line_is net ask bound) three.made.text;
    }

-- the one reply to an ask that is refused, unless memory was wanted
pub refused_ends : (net : Net) (ask : Ask) (fault : AskFault) (short : Bool)
    (result : Result Status Stop) (d : DeskState) (s t : SinkState)
    → Unless short (plan_result net ask ≡ Err fault)
    → LineEnds result (refused_line 1 (refusals.Ask fault)) s t
    → (short ≡ true → (result ≡ Err stops.NoMemory) × (t ≡ s))
    → Ends result (shown net ask).outputs d d s t
refused_ends net ask fault true result d s t answers line gone =
    let none = gone refl in
    rw none.0 (nothing_made (shown net ask).outputs d d s t refl none.1)
refused_ends net ask fault false result d s t answers line gone =
    rw answers (last_ends result (refused_line 1 (refusals.Ask fault)) d s t line)

-- an ask that is refused has no policy that would have to hold
pub refused_holds : (net : Net) (ask : Ask) (fault : AskFault) (short : Bool)
    (result : Result Status Stop) → Unless short (plan_result net ask ≡ Err fault)
    → (short ≡ true → result ≡ Err stops.NoMemory)
    → IfOk result (λ status. HoldsUnlessRefused net ask)
refused_holds net ask fault true result answers gone = rw (gone refl) tt
refused_holds net ask fault false (Err stop) answers gone = tt
refused_holds net ask fault false (Ok status) answers gone =
    λ none. absurd (let both = rw none at answers in cc)

-- ---- whether the job was done

pub not_worked : (A : Type 0) (end : NoInput) (result : Result Status Stop) (s t : SinkState)
    → NoInputWritten end result s t → IfOk result (λ status. IsWorked status → A)
not_worked A (ends.Fault fault) (Ok status) s t written =
    λ worked. absurd (subst IsWorked written.1 worked)
not_worked A (ends.Fault fault) (Err stop) s t written = tt
not_worked A ends.Unread result s t written = rw written.0 (λ worked. absurd worked)
not_worked A ends.NoMemory result s t written = rw written.0 (λ worked. absurd worked)

verdict_worked : {A : Type 0} (cause : Option A) → IsWorked (verdict_status cause)
verdict_worked None = tt
verdict_worked (Some cause) = tt

pub shown_worked : (net : Net) (ask : Ask) → ask_fault net ask ≡ None
    → IsWorked (shown net ask).status
shown_worked net ask answered =
    rw answered (verdict_worked (rejection net (plan_table net ask)))
