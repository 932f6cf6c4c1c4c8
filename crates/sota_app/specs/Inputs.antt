-- How the reading of inputs ended.
use Rattle.std.specs.Prelude.{ℕ, ◌≡◌, ◌≤◌, List, [], ◌∷◌, ◌++◌, map, length, Result, Ok}
use Rattle.std.specs.Prelude.{Err, IfOk}
use Rattle.sota_units.specs.Limits.{TEXT_LIMIT}
use Rattle.sota_edge.specs.Desk.{Files, DeskState}
use Rattle.sota_edge.specs.Sink.{SinkState}
use Rattle.sota_app.specs.Outputs.{LineEnds}
use Rattle.sota_app.specs.InputFaults.{fault_line}
use Rattle.sota_app.specs.Outcome.{Job, play, judge, judge_bracket, replay, show, timed}
use Rattle.sota_app.specs.Outcome.{Work}
use Rattle.sota_network.specs.Network.{Net}
use Rattle.sota_dimacs.specs.declared.graph.RawGraph.{RawGraph}
use Rattle.sota_dimacs.specs.declared.graph.RawArc.{RawArc}
use Rattle.sota_polfile.specs.Bracket.{IsBracket}
use Rattle.sota_period.specs.Periods.{ArePeriodsInOrder, ArePeriods, first_net}
use Rattle.sota_period.specs.Periods as roads
use Rattle.sota_app.specs.Shown.{HoldsUnlessRefused}
use Rattle.sota_app.specs.Script.{ScriptLine, ask_on, session_ask, script_lines}
use Rattle.sota_app.specs.Causes.{Known, Took, IsOfText}
use Rattle.sota_app.specs.declared.inputs.Script.{Script}
use Rattle.sota_app.specs.declared.inputs.Source.{Source}
use Rattle.sota_app.specs.declared.inputs.Source.TheVariants as sources
use Rattle.sota_app.specs.declared.inputs.Job.{Job as TaskJob}
use Rattle.sota_app.specs.declared.inputs.Job.TheVariants as jobs
use Rattle.sota_app.specs.declared.inputs.Task.{Task}
use Rattle.sota_app.specs.declared.inputs.Task.TheVariants as tasks
use Rattle.sota_app.specs.declared.voice.Voice.{Voice}
use Rattle.sota_app.specs.declared.input.NoInput.{NoInput}
use Rattle.sota_app.specs.declared.input.NoInput.TheVariants as ends
use Rattle.sota_app.specs.declared.status.Status.{Status}
use Rattle.sota_app.specs.declared.status.Status.TheVariants.{Done, SomeRefused}
use Rattle.sota_app.specs.declared.status.Status.TheVariants.{Words, Input, ReadFault, NoMemory}
use Rattle.sota_app.specs.declared.stop.Stop.{Stop}

-- the lines of a script
abbrev pub source_lines : Voice → Source → List ScriptLine
source_lines voice (sources.Ask ask) = ask_on 1 ask ∷ []
source_lines voice (sources.Text text) = script_lines voice text.items

abbrev pub lines_of : Script → List ScriptLine
lines_of script = source_lines script.voice script.source

abbrev pub job_of : TaskJob → Job
job_of (jobs.Play script) = play script.voice (lines_of script)
job_of (jobs.Judge table) = judge table
job_of (jobs.JudgeBracket table) = judge_bracket table
job_of (jobs.Replay table trips) = replay table trips
job_of (jobs.Show ask) = show ask

abbrev pub task_work : Task → Work
task_work (tasks.OnNetwork network job) = record { net = network; job = job_of job }
task_work (tasks.OverPeriods periods asked) =
    record { net = first_net periods; job = timed periods asked }

-- a script is within its limit
abbrev pub IsShort : Source → Type 0
IsShort (sources.Ask ask) = Unit {0}
IsShort (sources.Text text) = length text.items ≤ TEXT_LIMIT

abbrev pub IsShortJob : TaskJob → Type 0
IsShortJob (jobs.Play script) = IsShort script.source
IsShortJob (jobs.Judge table) = Unit {0}
IsShortJob (jobs.JudgeBracket table) = Unit {0}
IsShortJob (jobs.Replay table trips) = Unit {0}
IsShortJob (jobs.Show ask) = Unit {0}

-- a trip begins at tick 0 of the clock or later
abbrev pub IsShortTask : Task → Type 0
IsShortTask (tasks.OnNetwork network job) = IsShortJob job
IsShortTask (tasks.OverPeriods periods asked) = asked.ask.budget ≤ asked.deadline

-- ---- networks over the roads of a graph

abbrev pub raw_ends : List RawArc → List (ℕ × ℕ)
raw_ends arcs = map (λ arc. (arc.tail, arc.head)) arcs

-- the nodes and the ends of all arcs are those of a graph
pub record HasRoads (graph : RawGraph) (net : Net) : Type 0 where
  pub nodes : net.nodes ≡ graph.nodes
  pub ends : roads.ends net.arcs ≡ raw_ends graph.arcs

-- with each network over these roads that starts there, the periods are in order
abbrev pub CanFollow : RawGraph → List (ℕ × Net) → ℕ → Type 0
CanFollow graph known start = (net : Net) → HasRoads graph net
    → ArePeriodsInOrder (known ++ (start, net) ∷ [])

-- ---- how inputs were read

-- nothing changed in the desk but what was taken
pub record OnlyTook (old new : DeskState) : Type 0 where
  pub holds : new.holds ≡ old.holds
  pub fault_name : new.fault_name ≡ old.fault_name
  pub loads : new.load_faults ≡ old.load_faults
  pub stores : new.store_faults ≡ old.store_faults
  pub taken : old.taken ≤ new.taken

-- a text was read as what it means
abbrev pub TextAnswers : {A : Type 0} → Result A NoInput → Result A NoInput → Type 0
TextAnswers (Ok value) meaning = meaning ≡ Ok value
TextAnswers (Err (ends.Fault fault)) meaning = (meaning ≡ Err (ends.Fault fault)) × IsOfText fault
TextAnswers (Err ends.Unread) meaning = ⊥
TextAnswers (Err ends.NoMemory) meaning = Unit {0}

-- What was read is what the files mean, where the desk tells what it holds. An input that could not
-- be read was missed so.
abbrev pub InputAnswers : {T A : Type 0} → (T → A) → Result T NoInput → (Files → Result A NoInput)
    → (DeskState → DeskState → Type 0) → DeskState → DeskState → Type 0
InputAnswers view (Ok value) meaning Missed old new =
    OnlyTook old new × Known old (λ files. meaning files ≡ Ok (view value))
InputAnswers view (Err (ends.Fault fault)) meaning Missed old new =
    OnlyTook old new × Took fault old new
    × Known old (λ files. meaning files ≡ Err (ends.Fault fault))
InputAnswers view (Err ends.Unread) meaning Missed old new =
    Missed old new × (new.holds ≡ old.holds)
InputAnswers view (Err ends.NoMemory) meaning Missed old new = new.holds ≡ old.holds

-- the line of an input that is not accepted was written; of one that could not be read nothing was
abbrev pub NoInputWritten : NoInput → Result Status Stop → SinkState → SinkState → Type 0
NoInputWritten (ends.Fault fault) result old new =
    LineEnds result (fault_line fault) old new × IfOk result (λ status. status ≡ Input)
NoInputWritten ends.Unread result old new = (result ≡ Ok ReadFault) × (new ≡ old)
NoInputWritten ends.NoMemory result old new = (result ≡ Ok NoMemory) × (new ≡ old)

-- there was no job: the words are no request, or an input was not accepted or not read
abbrev pub IsIdle : Status → Type 0
IsIdle Words = Unit {0}
IsIdle Input = Unit {0}
IsIdle ReadFault = Unit {0}
IsIdle _ = ⊥

-- a job was done
abbrev pub IsWorked : Status → Type 0
IsWorked Done = Unit {0}
IsWorked SomeRefused = Unit {0}
IsWorked _ = ⊥

-- the policy of an ask that was planned holds, and a bracket or periods that were read are such
abbrev pub JobHolds : Net → Job → Type 0
JobHolds net (play voice lines) = Unit {0}
JobHolds net (judge table) = Unit {0}
JobHolds net (judge_bracket table) = IsBracket table
JobHolds net (replay table trips) = Unit {0}
JobHolds net (show ask) = HoldsUnlessRefused net (session_ask ask)
JobHolds net (timed periods asked) = ArePeriods periods
