-- What a call does outside, in order, and how far it came.
use Rattle.std.specs.Prelude.{◌≡◌, ◌≤◌, ◌⊎◌, ℕ, List, [], ◌∷◌, ◌++◌, length, take, fold, flat_map}
use Rattle.std.specs.Prelude.{Option, Some, None, option_map, option_to_list, Result, Ok, Err}
use Rattle.std.specs.Option.{IsSomeAnd}
use Rattle.sota_edge.specs.Counts.{Rose}
use Rattle.sota_edge.specs.Desk.{Files, DeskState, SameBut, stored}
use Rattle.sota_edge.specs.Sink.{SinkState, Wrote, WrotePrefix}
use Rattle.sota_edge.specs.declared.desk.StoreError.{StoreError}
use Rattle.sota_edge.specs.declared.desk.StoreError.TheVariants as store
use Rattle.sota_edge.specs.declared.sink.SinkError.{SinkError}
use Rattle.sota_edge.specs.declared.sink.SinkError.TheVariants as put
use Rattle.sota_app.specs.declared.reply.NamedFile.{NamedFile}
use Rattle.sota_app.specs.declared.stop.Stop.{Stop}
use Rattle.sota_app.specs.declared.stop.Stop.TheVariants as stops

-- a line that is written, and the file that is stored before it, where there is one
pub record Output : Type 0 where
  pub file : Option NamedFile
  pub line : List ℕ

-- a line without a file
abbrev pub only_line : List ℕ → List Output
only_line line = record { file = None; line = line } ∷ []

-- their lines one after the other
abbrev pub text_of : List Output → List ℕ
text_of outputs = flat_map (λ output. output.line) outputs

-- their files in the order in which they are stored
abbrev pub stores_of : List Output → List NamedFile
stores_of outputs = flat_map (λ output. option_to_list output.file) outputs

-- the files that are held after these are stored, in order
abbrev pub all_stored : List NamedFile → Files → Files
all_stored stores files = fold (λ held file. stored file.name file.bytes held) files stores

abbrev pub held_after : List Output → Option Files → Option Files
held_after outputs held = option_map (all_stored (stores_of outputs)) held

-- ---- from what was held to what is held, and from one state of a sink to another

-- all of these outputs were made, and nothing else was done
pub record Made (outputs : List Output) (old new : Option Files) (from to : SinkState)
    : Type 0 where
  pub text : Wrote (text_of outputs) from to
  pub stores : new ≡ held_after outputs old

-- these outputs were made, but not the file of the next one: it is unknown what its name holds, and
-- nothing of its line was written
pub record FileMissed (made : List Output) (file : NamedFile) (old new : Option Files)
    (from to : SinkState) : Type 0 where
  pub text : Wrote (text_of made) from to
  pub others : SameBut file.name (held_after made old) new

-- these outputs were made, the file of the next one was stored, and its line was begun
pub record LineBegun (made : List Output) (next : Output) (old new : Option Files)
    (from to : SinkState) : Type 0 where
  pub count : ℕ
  pub within : count ≤ length next.line
  pub text : Wrote (text_of made ++ take count next.line) from to
  pub stores : new ≡ held_after (made ++ next ∷ []) old

-- after the outputs that were made, the next one was not begun, or its line was, or its file was
-- missed, which has this cause
abbrev pub NextBegun : Type 0 → List Output → List Output → Option Files → Option Files
    → SinkState → SinkState → Type 0
NextBegun Cause made [] old new from to = Made made old new from to
NextBegun Cause made (next ∷ left) old new from to =
    Made made old new from to
    ⊎ (LineBegun made next old new from to
    ⊎ (Cause × IsSomeAnd next.file (λ file. FileMissed made file old new from to)))

-- some first outputs were made, and at most the next one was begun
pub record Begun (Cause : Type 0) (outputs : List Output) (old new : Option Files)
    (from to : SinkState) : Type 0 where
  pub made : List Output
  pub left : List Output
  pub all : outputs ≡ made ++ left
  pub next : NextBegun Cause made left old new from to

-- a store failed: it was that of the first file that was not stored, whose name the desk has
pub record StoreMissed (outputs : List Output) (old : Option Files) (desk : DeskState)
    (from to : SinkState) : Type 0 where
  pub made : List Output
  pub file : NamedFile
  pub line : List ℕ
  pub left : List Output
  pub all : outputs ≡ made ++ record { file = Some file; line = line } ∷ left
  pub name : desk.fault_name ≡ Some file.name
  pub missed : FileMissed made file old desk.holds from to

-- ---- why the making of outputs stopped

abbrev pub stop_of_put : SinkError → Stop
stop_of_put put.Failed = stops.PutFailed
stop_of_put put.NoMemory = stops.NoMemory

abbrev pub stop_of_store : StoreError → Stop
stop_of_store store.Failed = stops.StoreFailed
stop_of_store store.NoMemory = stops.NoMemory

abbrev pub Stopped : Stop → List Output → DeskState → DeskState → SinkState → SinkState → Type 0
Stopped stops.PutFailed outputs old new from to =
    Rose from.faults to.faults × Begun ⊥ outputs old.holds new.holds from to
Stopped stops.StoreFailed outputs old new from to =
    Rose old.store_faults new.store_faults × StoreMissed outputs old.holds new from to
Stopped stops.NoMemory outputs old new from to =
    Begun (Unit {0}) outputs old.holds new.holds from to

-- the making of outputs ended: all were made, or it stopped for this
abbrev pub Ends : {A : Type 0} → Result A Stop → List Output → DeskState → DeskState
    → SinkState → SinkState → Type 0
Ends (Ok _) outputs old new from to =
    Made outputs old.holds new.holds from to
    × (old.store_faults ≤ new.store_faults) × (from.faults ≤ to.faults)
Ends (Err stop) outputs old new from to = Stopped stop outputs old new from to

-- ---- one file, and one line

abbrev pub FileEnds : {A : Type 0} → Result A Stop → NamedFile → DeskState → DeskState → Type 0
FileEnds (Ok _) file old new =
    (new.holds ≡ option_map (stored file.name file.bytes) old.holds)
    × (old.store_faults ≤ new.store_faults)
FileEnds (Err stops.PutFailed) file old new = ⊥
FileEnds (Err stops.StoreFailed) file old new =
    SameBut file.name old.holds new.holds × Rose old.store_faults new.store_faults
    × (new.fault_name ≡ Some file.name)
FileEnds (Err stops.NoMemory) file old new = SameBut file.name old.holds new.holds

abbrev pub LineEnds : {A : Type 0} → Result A Stop → List ℕ → SinkState → SinkState → Type 0
LineEnds (Ok _) line from to = Wrote line from to × (from.faults ≤ to.faults)
LineEnds (Err stops.PutFailed) line from to =
    WrotePrefix line from to × Rose from.faults to.faults
LineEnds (Err stops.StoreFailed) line from to = ⊥
LineEnds (Err stops.NoMemory) line from to = WrotePrefix line from to
