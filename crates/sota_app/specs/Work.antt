-- How many entries planning pushes to its tables, and how much of them is kept, line by line.
use Rattle.std.specs.Prelude.{ℕ, ◌≡◌, ◌+◌, ◌*◌, List, [], ◌∷◌, Option, Some, None, Result, Ok, Err}
use Rattle.sota_hist.specs.Build.{time_of}
use Rattle.sota_network.specs.Network.{Net}
use Rattle.sota_network.specs.Region.{table_cells}
use Rattle.sota_kept.specs.States.{State, first_state}
use Rattle.sota_script.specs.declared.command.Ask3.{Ask3}
use Rattle.sota_script.specs.declared.command.Command.{Command}
use Rattle.sota_script.specs.declared.command.Command.TheVariants as commands
use Rattle.sota_session.specs.Asks.{ask_fault}
use Rattle.sota_session.specs.State.{state_after, pushes_for, state_edited}
use Rattle.sota_session.specs.declared.ask.Ask.{Ask}
use Rattle.sota_bounds.specs.declared.fault.AskFault.{AskFault}
use Rattle.sota_app.specs.Outcome.{Job, play, judge, judge_bracket, replay, show, timed}
use Rattle.sota_app.specs.Script.{ScriptLine, session_ask, command_refusal, step}
use Rattle.sota_app.specs.declared.reply.Refusal.{Refusal}

-- so many pushes, and what is kept after them
pub record Effort : Type 0 where
  pub pushes : ℕ
  pub kept : State

abbrev pub no_effort : State → Effort
no_effort kept = record { pushes = 0; kept = kept }

-- three pushes for each entry that is missing for an ask
abbrev pub ask_effort : Net → Ask3 → State → Effort
ask_effort net ask kept = record {
  pushes = pushes_for net (session_ask ask) kept;
  kept = state_after net (session_ask ask) kept;
}

-- three pushes for each entry of the region of an ask
abbrev pub region_pushes : Net → Ask → ℕ
region_pushes net ask = 3 * table_cells net ask.origin ask.dest ask.budget

-- a need is planned on tables of its own, which are filled with the region of its ask
abbrev pub need_effort : Net → Ask3 → State → Effort
need_effort net ask kept =
    record { pushes = region_pushes net (session_ask ask); kept = kept }

-- another time of an arc cuts what it can affect
abbrev pub edit_effort : Net → ℕ → List (ℕ × ℕ) → State → Effort
edit_effort net arc time kept = record { pushes = 0; kept = state_edited net arc time kept }

-- of a command that is not refused
abbrev pub command_effort : Net → Command → State → Effort
command_effort net (commands.Edit arc pairs) kept = edit_effort net arc (time_of pairs) kept
command_effort net (commands.Close arc) kept = edit_effort net arc [] kept
command_effort net (commands.Ask ask) kept = ask_effort net ask kept
command_effort net (commands.Policy ask name) kept = ask_effort net ask kept
command_effort net (commands.Bracket ask name) kept = ask_effort net ask kept
command_effort net (commands.Route dest budget arcs) kept = no_effort kept
command_effort net (commands.Need ask confidence) kept = need_effort net ask kept

-- what is refused costs nothing
abbrev pub unless_refused_effort : Option Refusal → State → Effort → Effort
unless_refused_effort None kept effort = effort
unless_refused_effort (Some refusal) kept effort = no_effort kept

abbrev pub result_effort : Net → Command → State → Effort
result_effort net command kept =
    unless_refused_effort (command_refusal net command) kept (command_effort net command kept)

abbrev pub parsed_effort : Net → Result (Option Command) Refusal → State → Effort
parsed_effort net (Ok None) kept = no_effort kept
parsed_effort net (Ok (Some command)) kept = result_effort net command kept
parsed_effort net (Err refusal) kept = no_effort kept

abbrev pub line_effort : Net → ScriptLine → State → Effort
line_effort net line kept = parsed_effort net line.parsed kept

-- the pushes of lines, on a network of which so much is kept
abbrev pub work : Net → List ScriptLine → State → ℕ
work net [] kept = 0
work net (line ∷ lines) kept =
    (line_effort net line kept).pushes
    + work (step net line).next lines (line_effort net line kept).kept

abbrev pub pushes_unless : Option AskFault → ℕ → ℕ
pushes_unless None pushes = pushes
pushes_unless (Some fault) pushes = 0

-- the pushes of a job: at first nothing is kept. The plan that is shown is pushed once, for its
-- answer and its policy. Planning over periods of the clock pushes nothing: its values stand in
-- tables of their own, of which nothing is said here
abbrev pub job_work : Net → Job → ℕ
job_work net (play voice lines) = work net lines (first_state net.nodes)
job_work net (judge table) = 0
job_work net (judge_bracket table) = 0
job_work net (replay table trips) = 0
job_work net (show ask) =
    pushes_unless (ask_fault net (session_ask ask)) (region_pushes net (session_ask ask))
job_work net (timed periods asked) = 0

-- so much was done between two counts of pushes
pub record IsSpent (effort : Effort) (old new : ℕ) (kept : State) : Type 0 where
  pub pushes : new ≡ old + effort.pushes
  pub kept_is : kept ≡ effort.kept
