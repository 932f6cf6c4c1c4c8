-- What the words and the files mean: the outputs, which are lines and stored files in their order,
-- and a status.
use Rattle.std.specs.Prelude.{ℕ, List, [], ◌∷◌, ◌++◌, nat_lt, length, Option, Some, None, Result}
use Rattle.std.specs.Prelude.{Ok, Err}
use Rattle.std.specs.Prelude.{Bool, if◌then◌else◌, codes}
use Rattle.std.specs.Str.{bytes_eq}
use Rattle.sota_units.specs.Memory.{◌>>=◌}
use Rattle.sota_edge.specs.Desk.{Files}
use Rattle.sota_dimacs.specs.Graph.{graph_text}
use Rattle.sota_dimacs.specs.declared.graph.RawGraph.{RawGraph}
use Rattle.sota_histcsv.specs.Certain.{certain_net}
use Rattle.sota_histcsv.specs.Histograms.{hist_net}
use Rattle.sota_network.specs.Network.{Net}
use Rattle.sota_polfile.specs.Table.{Table}
use Rattle.sota_polfile.specs.Bracket.{Bracket}
use Rattle.sota_polfile.specs.BracketFile.{any_of}
use Rattle.sota_polfile.specs.declared.any.AnyTable.{AnyTable}
use Rattle.sota_polfile.specs.declared.any.AnyTable.TheVariants.{One, Two}
use Rattle.sota_polfile.specs.Faults.{policy_of}
use Rattle.sota_check.specs.Rejected.{rejection}
use Rattle.sota_check.specs.BracketRejected.{bracket_rejection}
use Rattle.sota_period.specs.Periods.{first_net, scale_differs}
use Rattle.sota_report.specs.Names.{Place, places_of}
use Rattle.sota_app.specs.Words.{request_of}
use Rattle.sota_app.specs.Requests.{TimedRequest}
use Rattle.sota_app.specs.Outputs.{Output, only_line}
use Rattle.sota_app.specs.Replies.{answer_line, refused_line, outputs_of, replies_status}
use Rattle.sota_app.specs.Shown.{net_made, ask_made, made_line, plan_result}
use Rattle.sota_app.specs.declared.showing.Plan.{Plan}
use Rattle.sota_app.specs.declared.reply.Refusal.TheVariants as refusals
use Rattle.sota_script.specs.declared.command.Ask3.{Ask3}
use Rattle.sota_session.specs.declared.ask.Ask.{Ask}
use Rattle.sota_bounds.specs.declared.fault.AskFault.{AskFault}
use Rattle.sota_app.specs.Verdicts.{verdict_line, bracket_verdict_line, replay_line, verdict_status}
use Rattle.sota_app.specs.TimedLines.{planned, planned_line, planned_status}
use Rattle.sota_app.specs.Script.{ScriptLine, ask_on, session_ask, script_lines, replies_to}
use Rattle.sota_app.specs.InputFaults.{input_limit, fault_line}
use Rattle.sota_app.specs.declared.reply.Reply.{Reply}
use Rattle.sota_app.specs.declared.input.Input.{Input}
use Rattle.sota_app.specs.declared.input.Input.TheVariants as inputs
use Rattle.sota_app.specs.declared.input.InputFault.{InputFault}
use Rattle.sota_app.specs.declared.input.InputFault.TheVariants as faults
use Rattle.sota_app.specs.declared.input.NoInput.{NoInput}
use Rattle.sota_app.specs.declared.input.NoInput.TheVariants as ends
use Rattle.sota_app.specs.declared.voice.Voice.{Voice}
use Rattle.sota_app.specs.declared.voice.Voice.TheVariants as voices
use Rattle.sota_app.specs.declared.words.Trips.{Trips}
use Rattle.sota_app.specs.declared.words.TimedAsk.{TimedAsk}
use Rattle.sota_app.specs.declared.words.Request.{Request}
use Rattle.sota_app.specs.declared.words.Request.TheVariants as requests
use Rattle.sota_app.specs.declared.status.Status.{Status}
use Rattle.sota_app.specs.declared.status.Status.TheVariants as statuses

-- ---- inputs: what they mean, or why the first one that is not accepted is not

-- what a reader makes of a text; its fault is one of the input
abbrev pub or_input_fault : {A E : Type 0} → (E → InputFault) → Result A E → Result A NoInput
or_input_fault fault_of (Ok x) = Ok x
or_input_fault fault_of (Err fault) = Err (ends.Fault (fault_of fault))

-- an input whose name holds these bytes, or none
abbrev pub input_bytes : Input → Option (List ℕ) → Result (List ℕ) NoInput
input_bytes input None = Err ends.Unread
input_bytes input (Some bytes) =
    if nat_lt (input_limit input) (length bytes) then Err (ends.Fault (faults.TooLong input))
    else Ok bytes

abbrev pub read_graph : List ℕ → Result RawGraph NoInput
read_graph bytes = or_input_fault (λ fault. faults.Graph fault) (graph_text bytes)

abbrev pub graph_named : List ℕ → Files → Result RawGraph NoInput
graph_named name files = input_bytes inputs.Graph (files name) >>= read_graph

-- without a file of histograms each arc takes its weight
abbrev pub certain_hists : RawGraph → Result Net NoInput
certain_hists graph = or_input_fault (λ fault. faults.Hists fault) (certain_net graph)

abbrev pub read_hists : RawGraph → List ℕ → Result Net NoInput
read_hists graph bytes = or_input_fault (λ fault. faults.Hists fault) (hist_net bytes graph)

-- the word that stands for no file of histograms
abbrev pub is_dash : List ℕ → Bool
is_dash name = bytes_eq name (codes "-")

abbrev pub with_hists : List ℕ → Files → RawGraph → Result Net NoInput
with_hists name files graph =
    if is_dash name then certain_hists graph
    else input_bytes inputs.Hists (files name) >>= read_hists graph

-- the network of a graph file and a word for histograms
abbrev pub network_of : List ℕ → List ℕ → Files → Result Net NoInput
network_of graph hists files = graph_named graph files >>= with_hists hists files

-- every text within the limit is a script
abbrev pub script_of : List ℕ → Files → Result (List ℕ) NoInput
script_of name files = input_bytes inputs.Script (files name)

-- of either version
abbrev pub read_any_table : List ℕ → Result AnyTable NoInput
read_any_table bytes = or_input_fault (λ fault. faults.Policy fault) (any_of bytes)

abbrev pub any_table_named : List ℕ → Files → Result AnyTable NoInput
any_table_named name files = input_bytes inputs.Policy (files name) >>= read_any_table

-- of version 1
abbrev pub read_table : List ℕ → Result Table NoInput
read_table bytes = or_input_fault (λ fault. faults.Policy fault) (policy_of bytes)

abbrev pub table_named : List ℕ → Files → Result Table NoInput
table_named name files = input_bytes inputs.Policy (files name) >>= read_table

-- the names of places for a network
abbrev pub read_names : Net → List ℕ → Result (List Place) NoInput
read_names net bytes = or_input_fault (λ fault. faults.Names fault) (places_of net.nodes bytes)

abbrev pub names_of : List ℕ → Files → Net → Result (List Place) NoInput
names_of name files net = input_bytes inputs.Names (files name) >>= read_names net

-- the networks of periods after those that are known, each by its start and its word for histograms
abbrev pub periods_after : RawGraph → Files → List (ℕ × Net) → List (ℕ × List ℕ)
    → Result (List (ℕ × Net)) NoInput
periods_after graph files known [] = Ok known
periods_after graph files known (p ∷ ps) = do
  net ← with_hists p.1 files graph
  periods_after graph files (known ++ (p.0, net) ∷ []) ps

-- masses have one denominator in all periods
abbrev pub unless_differs : Option ℕ → List (ℕ × Net) → Result (List (ℕ × Net)) NoInput
unless_differs None periods = Ok periods
unless_differs (Some place) periods = Err (ends.Fault (faults.ScaleDiffers place))

abbrev pub one_scale : List (ℕ × Net) → Result (List (ℕ × Net)) NoInput
one_scale periods = unless_differs (scale_differs periods) periods

-- all periods of a request: the first one starts at tick 0 of the clock
abbrev pub all_periods : TimedRequest → List (ℕ × List ℕ)
all_periods words = (0, words.hists) ∷ words.later

abbrev pub periods_of : TimedRequest → Files → Result (List (ℕ × Net)) NoInput
periods_of words files = do
  graph ← graph_named words.graph files
  periods ← periods_after graph files [] (all_periods words)
  one_scale periods

-- ---- requests

-- what is to be done on a network: lines are to be played in a voice, or a policy of one of the two
-- versions is to be judged, or trips are to follow one of version 1 besides, or an ask is to be
-- planned and its policy judged, or one is to be planned over periods of the clock, of which the
-- first has this network
pub data Job : Type 0 where
  play : Voice → List ScriptLine → Job
  judge : Table → Job
  judge_bracket : Bracket → Job
  replay : Table → Trips → Job
  show : Ask3 → Job
  timed : List (ℕ × Net) → TimedAsk → Job

pub record Work : Type 0 where
  pub net : Net
  pub job : Job

-- a policy of either version is to be judged
abbrev pub judge_any : AnyTable → Job
judge_any (One table) = judge table
judge_any (Two table) = judge_bracket table

-- the request 'ask' is a script of that one line
abbrev pub work_of : Request → Files → Result Work NoInput
work_of (requests.Ask ask) files = do
  net ← network_of ask.graph ask.hists files
  Ok (record { net = net; job = play voices.Plain (ask_on 1 ask.ask ∷ []) })
work_of (requests.Run run) files = do
  net ← network_of run.graph run.hists files
  script ← script_of run.file files
  Ok (record { net = net; job = play voices.Plain (script_lines voices.Plain script) })
work_of (requests.Check check) files = do
  net ← network_of check.graph check.hists files
  table ← any_table_named check.file files
  Ok (record { net = net; job = judge_any table })
work_of (requests.Replay words) files = do
  net ← network_of words.names.graph words.names.hists files
  table ← table_named words.names.file files
  Ok (record { net = net; job = replay table words.trips })
work_of (requests.Report words) files = do
  net ← network_of words.graph words.hists files
  places ← names_of words.names files net
  script ← script_of words.script files
  Ok (record {
    net = net;
    job = play (voices.Json places) (script_lines (voices.Json places) script);
  })
work_of (requests.Make make) files =
    Ok (record { net = net_made make; job = show (ask_made make) })
work_of (requests.Timed words) files = do
  periods ← periods_of words files
  Ok (record { net = first_net periods; job = timed periods words.asked })

-- ---- outcomes

pub record Outcome : Type 0 where
  pub outputs : List Output
  pub status : Status

-- these replies
abbrev pub replied : Voice → List Reply → Outcome
replied voice replies =
    record { outputs = outputs_of voice replies; status = replies_status replies }

-- the verdict on a policy
abbrev pub judged : Net → Table → Outcome
judged net table = record {
  outputs = only_line (verdict_line table (rejection net table));
  status = verdict_status (rejection net table);
}

-- the verdict on a bracket
abbrev pub bracket_judged : Net → Bracket → Outcome
bracket_judged net table = record {
  outputs = only_line (bracket_verdict_line table (bracket_rejection net table));
  status = verdict_status (bracket_rejection net table);
}

-- the tally of trips, where the policy is not rejected
abbrev pub trips_outcome : Net → Table → Trips → Outcome
trips_outcome net table trips = record {
  outputs = only_line (replay_line net table trips (rejection net table));
  status = verdict_status (rejection net table);
}

-- what was made, the answer, and the verdict on its policy; an ask that is refused has its one
-- reply
abbrev pub plan_outcome : Net → Ask → Result Plan AskFault → Outcome
plan_outcome net ask (Ok plan) = record {
  outputs = only_line (made_line net plan.table)
      ++ (only_line (answer_line ask plan.answer)
      ++ only_line (verdict_line plan.table (rejection net plan.table)));
  status = verdict_status (rejection net plan.table);
}
plan_outcome net ask (Err fault) = record {
  outputs = only_line (refused_line 1 (refusals.Ask fault));
  status = statuses.SomeRefused;
}

abbrev pub shown : Net → Ask → Outcome
shown net ask = plan_outcome net ask (plan_result net ask)

-- the answer over periods of the clock, or why the ask is refused
abbrev pub timed_outcome : List (ℕ × Net) → TimedAsk → Outcome
timed_outcome periods asked = record {
  outputs = only_line (planned_line asked (planned periods asked));
  status = planned_status (planned periods asked);
}

abbrev pub job_outcome : Net → Job → Outcome
job_outcome net (play voice lines) = replied voice (replies_to net lines)
job_outcome net (judge table) = judged net table
job_outcome net (judge_bracket table) = bracket_judged net table
job_outcome net (replay table trips) = trips_outcome net table trips
job_outcome net (show ask) = shown net (session_ask ask)
job_outcome net (timed periods asked) = timed_outcome periods asked

-- an input that is not accepted; want of memory is never the meaning of files
abbrev pub no_input : NoInput → Outcome
no_input (ends.Fault fault) =
    record { outputs = only_line (fault_line fault); status = statuses.Input }
no_input ends.Unread = record { outputs = []; status = statuses.ReadFault }
no_input ends.NoMemory = record { outputs = []; status = statuses.NoMemory }

abbrev pub work_outcome : Result Work NoInput → Outcome
work_outcome (Ok work) = job_outcome work.net work.job
work_outcome (Err end) = no_input end

-- words that are no request
abbrev pub refused_words : List ℕ
refused_words = codes "refused words\n"

abbrev pub outcome_of : Option Request → Files → Outcome
outcome_of None files =
    record { outputs = only_line refused_words; status = statuses.Words }
outcome_of (Some request) files = work_outcome (work_of request files)

-- the outcome of the words after the program's name
abbrev pub outcome : List (List ℕ) → Files → Outcome
outcome words files = outcome_of (request_of words) files
