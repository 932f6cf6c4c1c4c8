-- A job that was done is not idle.
use Rattle.std.proofs.Common.{◌≡◌, Bool, true, false, Option, None, Some, Result, Ok, Err, IfOk, subst}
use Rattle.sota_network.specs.Network.{Net}
use Rattle.sota_session.specs.declared.ask.Ask.{Ask}
use Rattle.sota_bounds.specs.declared.fault.AskFault.{AskFault}
use Rattle.sota_app.specs.Replies.{lines_status, some_refused}
use Rattle.sota_app.specs.Script.{session_ask, replies_to}
use Rattle.sota_app.specs.Verdicts.{verdict_status}
use Rattle.sota_app.specs.Shown.{plan_result}
use Rattle.sota_app.specs.Inputs.{IsIdle}
use Rattle.sota_app.specs.Outcome.{Job, play, judge, judge_bracket, replay, show, timed}
use Rattle.sota_app.specs.Outcome.{job_outcome, plan_outcome}
use Rattle.sota_app.specs.TimedLines.{planned, planned_status}
use Rattle.sota_period.specs.declared.plan.TimedAnswer.{TimedAnswer}
use Rattle.sota_period.specs.declared.fault.TimedFault.{TimedFault}
use Rattle.sota_app.specs.declared.showing.Plan.{Plan}
use Rattle.sota_app.specs.declared.status.Status.{Status}
use Rattle.sota_app.specs.declared.stop.Stop.{Stop}
use Rattle.sota_check.specs.Rejected.{rejection}
use Rattle.sota_check.specs.BracketRejected.{bracket_rejection}

lines_worked : (refused : Bool) → IsIdle (lines_status refused) → ⊥
lines_worked true idle = idle
lines_worked false idle = idle

verdict_worked : {A : Type 0} (cause : Option A) → IsIdle (verdict_status cause) → ⊥
verdict_worked None idle = idle
verdict_worked (Some cause) idle = idle

plan_worked : (net : Net) (ask : Ask) (made : Result Plan AskFault)
    → IsIdle (plan_outcome net ask made).status → ⊥
plan_worked net ask (Ok plan) idle = verdict_worked (rejection net plan.table) idle
plan_worked net ask (Err fault) idle = idle

planned_worked : (made : Result TimedAnswer TimedFault) → IsIdle (planned_status made) → ⊥
planned_worked (Ok answer) idle = idle
planned_worked (Err fault) idle = idle

pub job_worked : (net : Net) (job : Job) → IsIdle (job_outcome net job).status → ⊥
job_worked net (play voice lines) idle = lines_worked (some_refused (replies_to net lines)) idle
job_worked net (judge table) idle = verdict_worked (rejection net table) idle
job_worked net (judge_bracket table) idle = verdict_worked (bracket_rejection net table) idle
job_worked net (replay table trips) idle = verdict_worked (rejection net table) idle
job_worked net (show ask) idle =
    plan_worked net (session_ask ask) (plan_result net (session_ask ask)) idle
job_worked net (timed periods asked) idle = planned_worked (planned periods asked) idle

pub idle_done : (A : Type 0) (result : Result Status Stop) (net : Net) (job : Job)
    → IfOk result (λ status. status ≡ (job_outcome net job).status)
    → IfOk result (λ status. IsIdle status → A)
idle_done A (Ok status) net job is = λ idle. absurd (job_worked net job (subst IsIdle is idle))
idle_done A (Err stop) net job is = tt
