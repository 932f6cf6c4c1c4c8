-- What a sink means, and what its answers say.
use Rattle.std.specs.Prelude.{◌≡◌, ℕ, ◌≤◌, ◌<◌, ◌++◌, List, length, take}
use Rattle.std.specs.Prelude.{Option, Result, Ok, Err, option_map}
use Rattle.sota_edge.specs.Counts.{Rose}
use Rattle.sota_edge.specs.declared.sink.SinkError.{SinkError}
use Rattle.sota_edge.specs.declared.sink.SinkError.TheVariants.{Failed, NoMemory}

-- A sink that writes to a terminal cannot say what arrived there, so `written` is none there. The
-- counts never fall: of puts that failed, and of puts that found no memory.
pub record SinkState : Type 0 where
  pub written : Option (List ℕ)
  pub faults : ℕ
  pub shortages : ℕ

-- these bytes after what was written, where that is known
abbrev pub appended : Option (List ℕ) → List ℕ → Option (List ℕ)
appended written bytes = option_map (λ text. text ++ bytes) written

-- all of these bytes were written, and no more
abbrev pub Wrote : List ℕ → SinkState → SinkState → Type 0
Wrote bytes old new = new.written ≡ appended old.written bytes

-- the first of these bytes were written, and no more
abbrev pub WrotePrefix : List ℕ → SinkState → SinkState → Type 0
WrotePrefix bytes old new = (count : ℕ) × (count ≤ length bytes) × Wrote (take count bytes) old new

-- Ok says how many bytes of the piece were taken, at least one where there is one. After an error
-- some first bytes of it may have been written, since a system that took bytes can still fail to
-- pass them on.
abbrev pub PutAnswer : Result ℕ SinkError → List ℕ → SinkState → SinkState → Type 0
PutAnswer (Ok count) piece old new =
    (count ≤ length piece) × (0 < length piece → 0 < count) × Wrote (take count piece) old new
PutAnswer (Err _) piece old new = WrotePrefix piece old new

-- Failed comes only where the count of faults rose, NoMemory only where that of shortages rose, and
-- neither ever falls.
abbrev pub SinkCause : {T : Type 0} → Result T SinkError → SinkState → SinkState → Type 0
SinkCause (Err Failed) old new = (old.faults ≤ new.faults) × (old.shortages ≤ new.shortages)
    × Rose old.faults new.faults
SinkCause (Err NoMemory) old new = (old.faults ≤ new.faults) × (old.shortages ≤ new.shortages)
    × Rose old.shortages new.shortages
SinkCause _ old new = (old.faults ≤ new.faults) × (old.shortages ≤ new.shortages)
