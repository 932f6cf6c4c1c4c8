-- What a status means: its cause, and what it says of what was written and stored.
use Rattle.std.specs.Prelude.{◌≡◌, ◌⊎◌, ℕ, ◌+◌, List, [], ◌∷◌, false, Option, Some, None, IfSome}
use Rattle.std.specs.Prelude.{Result, Ok, Err, IsOk}
use Rattle.std.specs.Option.{IsSomeAnd}
use Rattle.sota_edge.specs.Counts.{Rose, RoseBy}
use Rattle.sota_edge.specs.Desk.{Files, DeskState}
use Rattle.sota_edge.specs.Sink.{SinkState, Wrote}
use Rattle.sota_dimacs.specs.Words as graphs
use Rattle.sota_histcsv.specs.Words as hists
use Rattle.sota_polfile.specs.Words as policies
use Rattle.sota_network.specs.Network.{Net}
use Rattle.sota_report.specs.Names.{Place}
use Rattle.sota_report.specs.Words as names
use Rattle.sota_units.specs.Memory.{◌>>=◌}
use Rattle.sota_app.specs.Outputs.{Made, Begun, StoreMissed}
use Rattle.sota_app.specs.Outcome.{Outcome, outcome_of, refused_words}
use Rattle.sota_app.specs.Outcome.{graph_named, network_of, names_of, is_dash, all_periods}
use Rattle.sota_app.specs.Requests.{FileRequest, ReportRequest, TimedRequest}
use Rattle.sota_app.specs.InputFaults.{fault_place, fault_line}
use Rattle.sota_app.specs.declared.input.InputFault.{InputFault}
use Rattle.sota_app.specs.declared.input.InputFault.TheVariants.{TooLong, Graph, Hists, Policy}
use Rattle.sota_app.specs.declared.input.InputFault.TheVariants.{Names, ScaleDiffers}
use Rattle.sota_app.specs.declared.input.NoInput.{NoInput}
use Rattle.sota_app.specs.declared.words.Request.{Request}
use Rattle.sota_app.specs.declared.words.Request.TheVariants as requests
use Rattle.sota_app.specs.declared.status.Status.{Status}
use Rattle.sota_app.specs.declared.status.Status.TheVariants.{Done, SomeRefused, Words, Input}
use Rattle.sota_app.specs.declared.status.Status.TheVariants.{ReadFault, WriteFault, NoMemory}
use Rattle.sota_app.specs.declared.stop.Stop.{Stop}
use Rattle.sota_app.specs.declared.stop.Stop.TheVariants as stops

-- ---- what the desk tells

-- a fact of the files, where the desk tells what it holds
abbrev pub Known : DeskState → (Files → Type 0) → Type 0
Known desk P = IfSome desk.holds P

-- inputs are accepted, where the desk tells what it holds
abbrev pub Accepted : {A : Type 0} → (Files → Result A NoInput) → DeskState → Type 0
Accepted meaning desk = Known desk (λ files. IsOk (meaning files))

-- a load of this name failed, or the desk tells that it does not hold it
abbrev pub Unread : List ℕ → DeskState → DeskState → Type 0
Unread name old new =
    (Rose old.load_faults new.load_faults × (new.fault_name ≡ Some name))
    ⊎ IsSomeAnd old.holds (λ files. files name ≡ None)

-- the file of histograms, where the word for it is no dash
abbrev pub UnreadHists : List ℕ → DeskState → DeskState → Type 0
UnreadHists name old new = (is_dash name ≡ false) × Unread name old new

-- an input of a network could not be read, all inputs before it being accepted
abbrev pub UnreadNetwork : List ℕ → List ℕ → DeskState → DeskState → Type 0
UnreadNetwork graph hists old new =
    Unread graph old new ⊎ (Accepted (graph_named graph) old × UnreadHists hists old new)

-- an input of a network, or the one after them
abbrev pub UnreadLast : FileRequest → DeskState → DeskState → Type 0
UnreadLast names old new =
    UnreadNetwork names.graph names.hists old new
    ⊎ (Accepted (network_of names.graph names.hists) old × Unread names.file old new)

-- the names of places on a network that is accepted
abbrev pub places_for : ReportRequest → Files → Result (List Place) NoInput
places_for words files = network_of words.graph words.hists files >>= names_of words.names files

-- an input of a network, or the names of places, or the script after them
abbrev pub UnreadReport : ReportRequest → DeskState → DeskState → Type 0
UnreadReport words old new =
    UnreadNetwork words.graph words.hists old new
    ⊎ ((Accepted (network_of words.graph words.hists) old × Unread words.names old new)
    ⊎ (Accepted (places_for words) old × Unread words.script old new))

-- a file of histograms of one of these periods, the networks of those before it being accepted
abbrev pub UnreadPeriods : (List ℕ → Files → Result Net NoInput) → List (ℕ × List ℕ)
    → DeskState → DeskState → Type 0
UnreadPeriods network [] old new = ⊥
UnreadPeriods network (p ∷ ps) old new =
    UnreadHists p.1 old new
    ⊎ (Accepted (network p.1) old × UnreadPeriods network ps old new)

-- the graph, or a file of histograms of one of the periods after it
abbrev pub UnreadTimed : TimedRequest → DeskState → DeskState → Type 0
UnreadTimed words old new =
    Unread words.graph old new
    ⊎ (Accepted (graph_named words.graph) old
    × UnreadPeriods (network_of words.graph) (all_periods words) old new)

-- an input of the request
abbrev pub UnreadInput : Request → DeskState → DeskState → Type 0
UnreadInput (requests.Ask ask) old new = UnreadNetwork ask.graph ask.hists old new
UnreadInput (requests.Run run) old new = UnreadLast run old new
UnreadInput (requests.Check check) old new = UnreadLast check old new
UnreadInput (requests.Replay words) old new = UnreadLast words.names old new
UnreadInput (requests.Report words) old new = UnreadReport words old new
UnreadInput (requests.Make make) old new = ⊥
UnreadInput (requests.Timed words) old new = UnreadTimed words old new

-- a fault of what stands in a text; want of memory is none
abbrev pub IsOfText : InputFault → Type 0
IsOfText (TooLong input) = ⊥
IsOfText (Graph fault) = graphs.is_shortage fault ≡ false
IsOfText (Hists fault) = hists.is_shortage fault ≡ false
IsOfText (Policy fault) = policies.is_shortage fault ≡ false
IsOfText (Names fault) = names.is_shortage fault ≡ false
IsOfText (ScaleDiffers place) = Unit {0}

-- where an input is refused for its length, more than its limit was taken, which is the number in
-- its line
abbrev pub Took : InputFault → DeskState → DeskState → Type 0
Took fault old new = IsOfText fault ⊎ RoseBy (fault_place fault + 1) old.taken new.taken

-- ---- outcomes that stand

-- the whole outcome stands: its status, and its outputs after what was written and stored
pub record Delivered (outcome : Outcome) (status : Status)
    (desk_old desk_new : DeskState) (sink_old sink_new : SinkState) : Type 0 where
  pub status_is : outcome.status ≡ status
  pub made : Made outcome.outputs desk_old.holds desk_new.holds sink_old sink_new

-- no count of faults rose
pub record NoFault (desk_old desk_new : DeskState) (sink_old sink_new : SinkState) : Type 0 where
  pub loads : Rose desk_old.load_faults desk_new.load_faults → ⊥
  pub stores : Rose desk_old.store_faults desk_new.store_faults → ⊥
  pub puts : Rose sink_old.faults sink_new.faults → ⊥

-- the words are a request, and where the desk tells what that means, its whole outcome stands with
-- this status
abbrev pub Stands : Status → Option Request → DeskState → DeskState → SinkState → SinkState → Type 0
Stands status request desk_old desk_new sink_old sink_new = IsSomeAnd request (λ _.
    Known desk_old (λ files.
    Delivered (outcome_of request files) status desk_old desk_new sink_old sink_new))

-- ---- causes

-- the cause of a status, where the words are this request or none
abbrev pub Cause : Status → Option Request → DeskState → DeskState → SinkState → SinkState → Type 0
Cause Done request desk_old desk_new sink_old sink_new =
    Stands Done request desk_old desk_new sink_old sink_new
Cause SomeRefused request desk_old desk_new sink_old sink_new =
    Stands SomeRefused request desk_old desk_new sink_old sink_new
Cause Words request desk_old desk_new sink_old sink_new =
    (request ≡ None) × Wrote refused_words sink_old sink_new × (desk_new ≡ desk_old)
Cause Input request desk_old desk_new sink_old sink_new =
    Stands Input request desk_old desk_new sink_old sink_new
    × ((fault : InputFault) × Wrote (fault_line fault) sink_old sink_new
    × Took fault desk_old desk_new)
Cause ReadFault request desk_old desk_new sink_old sink_new =
    IsSomeAnd request (λ request. UnreadInput request desk_old desk_new)
    × (sink_new ≡ sink_old) × (desk_new.holds ≡ desk_old.holds)
Cause WriteFault request desk_old desk_new sink_old sink_new =
    Rose sink_old.faults sink_new.faults
    ⊎ (Rose desk_old.store_faults desk_new.store_faults
    × Known desk_old (λ files.
    StoreMissed (outcome_of request files).outputs desk_old.holds desk_new sink_old sink_new))
Cause NoMemory None desk_old desk_new sink_old sink_new =
    Rose sink_old.shortages sink_new.shortages
Cause NoMemory (Some request) desk_old desk_new sink_old sink_new = Unit {0}

-- ---- how a call ended, whatever happened

-- the status of a call; where its making of outputs stopped, that decides
abbrev pub status_of : Result Status Stop → Status
status_of (Ok status) = status
status_of (Err stops.PutFailed) = WriteFault
status_of (Err stops.StoreFailed) = WriteFault
status_of (Err stops.NoMemory) = NoMemory

-- a file can be missed only where the count of failed stores rose or memory was wanted
abbrev pub CanMiss : Status → DeskState → DeskState → Type 0
CanMiss status desk_old desk_new =
    Rose desk_old.store_faults desk_new.store_faults ⊎ (status ≡ NoMemory)

-- a call for this request, or for words that are none, ended with this status
pub record Ended (status : Status) (request : Option Request)
    (desk_old desk_new : DeskState) (sink_old sink_new : SinkState) : Type 0 where
  -- the status has its cause
  pub cause : Cause status request desk_old desk_new sink_old sink_new
  -- some first outputs of the outcome were made, and at most the next one was begun
  pub begun : Known desk_old (λ files.
      Begun (CanMiss status desk_old desk_new) (outcome_of request files).outputs
      desk_old.holds desk_new.holds sink_old sink_new)
