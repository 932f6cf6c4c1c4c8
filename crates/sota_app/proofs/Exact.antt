-- Where nothing fails, the cause of a status is the whole outcome.
use Rattle.std.proofs.Common.{◌≡◌, ◌≢◌, ℕ, List, [], ◌∷◌, ◌++◌, false, Option, Some, None, Result, Ok, Err, IsOk}
use Rattle.std.proofs.Common.{refl, ap, subst, inl, inr}
use Rattle.std.specs.Option.{IsSomeAnd}
use Rattle.sota_units.specs.Memory.{◌>>=◌}
use Rattle.sota_edge.specs.Desk.{Files, DeskState}
use Rattle.sota_edge.specs.Sink.{SinkState, Wrote}
use Rattle.sota_edge.specs.Counts.{Rose}
use Rattle.sota_network.specs.Network.{Net}
use Rattle.sota_app.specs.Requests.{FileRequest, ReportRequest, TimedRequest}
use Rattle.sota_app.specs.Outcome.{outcome_of, no_input, refused_words, graph_named, is_dash}
use Rattle.sota_app.specs.Outcome.{with_hists, names_of, periods_after, all_periods, Work}
use Rattle.sota_app.specs.Outcome.{network_of, script_of, table_named, any_table_named, work_of, work_outcome}
use Rattle.sota_app.specs.Causes.{Cause, Delivered, NoFault, Unread, UnreadNetwork, UnreadLast}
use Rattle.sota_app.specs.Causes.{UnreadReport, UnreadPeriods, UnreadTimed, UnreadInput}
use Rattle.sota_dimacs.specs.declared.graph.RawGraph.{RawGraph}
use Rattle.sota_app.specs.declared.input.NoInput.{NoInput}
use Rattle.sota_app.specs.declared.input.NoInput.TheVariants as ends
use Rattle.sota_app.specs.declared.words.Request.{Request}
use Rattle.sota_app.specs.declared.words.Request.TheVariants as requests
use Rattle.sota_app.specs.declared.status.Status.{Status}
use Rattle.sota_app.specs.declared.status.Status.TheVariants.{Done, SomeRefused, Words, Input}
use Rattle.sota_app.specs.declared.status.Status.TheVariants.{ReadFault, WriteFault, NoMemory}
use Rattle.sota_app.proofs.Known.{at_files}
use Rattle.sota_app.proofs.Made.{none_made, only_made}

-- what holds of a request holds of something
some_request : (o : Option Request) (A : Type 0) → IsSomeAnd o (λ _. A) → A
some_request (Some request) A h = h
some_request None A h = absurd h

-- where nothing failed, what could not be read is not there
unread_gone : (name : List ℕ) (files : Files) (d e : DeskState) → d.holds ≡ Some files
    → (Rose d.load_faults e.load_faults → ⊥) → Unread name d e → files name ≡ None
unread_gone name files d e tells calm h = elim h [
  | inl fault ↦ absurd (calm fault.0)
  | inr missing ↦
      subst (λ (o : Option Files). IsSomeAnd o (λ files. files name ≡ None)) tells missing
]

-- a fault after what is accepted
err_after : {A B : Type 0} (read : Result A NoInput) (next : A → Result B NoInput) (end : NoInput)
    → IsOk read → ((value : A) → next value ≡ Err end) → (read >>= next) ≡ Err end
err_after (Ok value) next end ok all = all value
err_after (Err other) next end ok all = absurd (cc)

unread_network : (graph hists : List ℕ) (files : Files) (d e : DeskState) → d.holds ≡ Some files
    → (Rose d.load_faults e.load_faults → ⊥) → UnreadNetwork graph hists d e
    → network_of graph hists files ≡ Err ends.Unread
unread_network graph hists files d e tells calm h = elim h [
  | inl unread ↦
      let gone : files graph ≡ None = unread_gone graph files d e tells calm unread in rw gone refl
  | inr after ↦
      let gone : files hists ≡ None = unread_gone hists files d e tells calm after.1.1 in
      let word : is_dash hists ≡ false = after.1.0 in
      err_after (graph_named graph files) (with_hists hists files) ends.Unread
      (at_files d.holds files _ tells after.0) (λ value. rw word (rw gone refl))
]

-- an input after a network
unread_last : {A B : Type 0} (names : FileRequest) (last : Result A NoInput)
    (next : Net → A → Result B NoInput) (files : Files) (d e : DeskState) → d.holds ≡ Some files
    → (Rose d.load_faults e.load_faults → ⊥) → (files names.file ≡ None → last ≡ Err ends.Unread)
    → UnreadLast names d e
    → (network_of names.graph names.hists files >>= λ net. last >>= next net) ≡ Err ends.Unread
unread_last names last next files d e tells calm gone h = elim h [
  | inl unread ↦
      rw (unread_network names.graph names.hists files d e tells calm unread) refl
  | inr after ↦
      let none : last ≡ Err ends.Unread =
      gone (unread_gone names.file files d e tells calm after.1) in
      err_after (network_of names.graph names.hists files) _ ends.Unread
      (at_files d.holds files _ tells after.0) (λ net. rw none refl)
]

-- the script after a network and names of places
unread_script : {A B C : Type 0} (read : Result A NoInput) (middle : A → Result B NoInput)
    (last : Result C NoInput) (next : A → B → C → Result Work NoInput)
    → IsOk (read >>= middle) → last ≡ Err ends.Unread
    → (read >>= λ net. middle net >>= λ places. last >>= next net places) ≡ Err ends.Unread
unread_script (Ok net) middle last next ok none =
    err_after (middle net) _ ends.Unread ok (λ places. rw none refl)
unread_script (Err end) middle last next ok none = absurd (cc)

unread_report : (words : ReportRequest) (files : Files) (d e : DeskState) → d.holds ≡ Some files
    → (Rose d.load_faults e.load_faults → ⊥) → UnreadReport words d e
    → work_of (requests.Report words) files ≡ Err ends.Unread
unread_report words files d e tells calm h = elim h [
  | inl network ↦
      rw (unread_network words.graph words.hists files d e tells calm network) refl
  | inr after ↦ elim after [
    | inl names ↦
        let gone : files words.names ≡ None =
        unread_gone words.names files d e tells calm names.1 in
        err_after (network_of words.graph words.hists files) _ ends.Unread
        (at_files d.holds files _ tells names.0) (λ net. rw gone refl)
    | inr script ↦
        let gone : files words.script ≡ None =
        unread_gone words.script files d e tells calm script.1 in
        unread_script (network_of words.graph words.hists files) (names_of words.names files)
        (script_of words.script files) _
        (at_files d.holds files _ tells script.0) (rw gone refl)
  ]
]

-- what was accepted
record IsRead {A : Type 0} (read : Result A NoInput) : Type 0 where
  value : A
  is : read ≡ Ok value

is_read : {A : Type 0} (read : Result A NoInput) → IsOk read → IsRead read
is_read (Ok value) ok = record { value = value; is = refl }
is_read (Err end) ok = absurd (cc)

ok_next : {A B : Type 0} (read : Result A NoInput) (value : A) (next : A → Result B NoInput)
    → read ≡ Ok value → IsOk (read >>= next) → IsOk (next value)
ok_next read value next is ok = let at = rw is at ok in at

unread_periods : (name : List ℕ) (graph : RawGraph) (ps : List (ℕ × List ℕ))
    (known : List (ℕ × Net)) (files : Files) (d e : DeskState) → d.holds ≡ Some files
    → (Rose d.load_faults e.load_faults → ⊥) → graph_named name files ≡ Ok graph
    → UnreadPeriods (network_of name) ps d e
    → periods_after graph files known ps ≡ Err ends.Unread
unread_periods name graph [] known files d e tells calm is h = absurd h
unread_periods name graph (p ∷ ps) known files d e tells calm is h = elim h [
  | inl hists ↦
      let gone : files p.1 ≡ None = unread_gone p.1 files d e tells calm hists.1 in
      let word : is_dash p.1 ≡ false = hists.0 in
      rw word (rw gone refl)
  | inr after ↦
      err_after (with_hists p.1 files graph) _ ends.Unread
      (ok_next (graph_named name files) graph (with_hists p.1 files) is
      (at_files d.holds files _ tells after.0))
      (λ net. unread_periods name graph ps (known ++ (p.0, net) ∷ []) files d e tells calm is
      after.1)
]

unread_timed : (words : TimedRequest) (files : Files) (d e : DeskState) → d.holds ≡ Some files
    → (Rose d.load_faults e.load_faults → ⊥) → UnreadTimed words d e
    → work_of (requests.Timed words) files ≡ Err ends.Unread
unread_timed words files d e tells calm h = elim h [
  | inl graph ↦
      let gone : files words.graph ≡ None =
      unread_gone words.graph files d e tells calm graph in rw gone refl
  | inr after ↦
      let read : IsRead (graph_named words.graph files) =
      is_read (graph_named words.graph files) (at_files d.holds files _ tells after.0) in
      let none : periods_after read.value files [] (all_periods words) ≡ Err ends.Unread =
      unread_periods words.graph read.value (all_periods words) [] files d e tells calm read.is
      after.1 in
      rw read.is (rw none refl)
]

unread_work : (request : Request) (files : Files) (d e : DeskState) → d.holds ≡ Some files
    → (Rose d.load_faults e.load_faults → ⊥) → UnreadInput request d e
    → work_of request files ≡ Err ends.Unread
unread_work (requests.Ask ask) files d e tells calm h =
    rw (unread_network ask.graph ask.hists files d e tells calm h) refl
unread_work (requests.Run run) files d e tells calm h =
    unread_last run (script_of run.file files) _ files d e tells calm
    (λ (none : files run.file ≡ None). rw none refl) h
unread_work (requests.Check check) files d e tells calm h =
    unread_last check (any_table_named check.file files) _ files d e tells calm
    (λ (none : files check.file ≡ None). rw none refl) h
unread_work (requests.Replay words) files d e tells calm h =
    unread_last words.names (table_named words.names.file files) _ files d e tells calm
    (λ (none : files words.names.file ≡ None). rw none refl) h
unread_work (requests.Report words) files d e tells calm h =
    unread_report words files d e tells calm h
unread_work (requests.Make make) files d e tells calm h = absurd h
unread_work (requests.Timed words) files d e tells calm h =
    unread_timed words files d e tells calm h

unread_outcome : (o : Option Request) (files : Files) (d e : DeskState) (s t : SinkState)
    → d.holds ≡ Some files → NoFault d e s t → t ≡ s → e.holds ≡ d.holds
    → IsSomeAnd o (λ request. UnreadInput request d e)
    → Delivered (outcome_of o files) ReadFault d e s t
unread_outcome None files d e s t tells none same held h = absurd h
unread_outcome (Some request) files d e s t tells none same held h =
    let is : outcome_of (Some request) files ≡ no_input ends.Unread =
    ap work_outcome (unread_work request files d e tells none.loads h) in
    rw is (record { status_is = refl; made = none_made d.holds e.holds s t held same })

words_outcome : (o : Option Request) (files : Files) (d e : DeskState) (s t : SinkState)
    → o ≡ None → Wrote refused_words s t → e ≡ d → Delivered (outcome_of o files) Words d e s t
words_outcome (Some request) files d e s t is wrote same = absurd (cc)
words_outcome None files d e s t is wrote same = record {
  status_is = refl;
  made = only_made refused_words d.holds e.holds s t (ap (λ (u : DeskState). u.holds) same) wrote;
}

-- what is done stands
pub done_stands : (status : Status) (o : Option Request) (files : Files) (d e : DeskState)
    (s t : SinkState) → status ≡ Done → d.holds ≡ Some files → Cause status o d e s t
    → Delivered (outcome_of o files) Done d e s t
done_stands status o files d e s t is tells cause =
    at_files d.holds files _ tells
    (some_request o _ (subst (λ (status : Status). Cause status o d e s t) is cause))

pub exact : (result : Status) (o : Option Request) (files : Files) (d e : DeskState)
    (s t : SinkState) → d.holds ≡ Some files → NoFault d e s t → result ≢ NoMemory
    → Cause result o d e s t → Delivered (outcome_of o files) result d e s t
exact Done o files d e s t tells none ran cause =
    at_files d.holds files _ tells (some_request o _ cause)
exact SomeRefused o files d e s t tells none ran cause =
    at_files d.holds files _ tells (some_request o _ cause)
exact Input o files d e s t tells none ran cause =
    at_files d.holds files _ tells (some_request o _ cause.0)
exact Words o files d e s t tells none ran cause =
    words_outcome o files d e s t cause.0 cause.1 cause.2
exact ReadFault o files d e s t tells none ran cause =
    unread_outcome o files d e s t tells none cause.1 cause.2 cause.0
exact WriteFault o files d e s t tells none ran cause = elim cause [
  | inl put ↦ absurd (none.puts put)
  | inr store ↦ absurd (none.stores store.0)
]
exact NoMemory o files d e s t tells none ran cause = absurd (ran refl)
