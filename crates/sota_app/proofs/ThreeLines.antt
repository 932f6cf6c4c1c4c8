-- Lines that are written one after the other, where no file is stored.
use Rattle.std.proofs.Common.{◌++◌, ℕ, List, Result}
use Rattle.sota_edge.specs.Desk.{DeskState}
use Rattle.sota_edge.specs.Sink.{SinkState}
use Rattle.sota_app.specs.Outputs.{Output, Ends, LineEnds, Stopped, only_line}
use Rattle.sota_app.specs.declared.stop.Stop.{Stop}
use Rattle.sota_app.proofs.Made.{done, stopped_by, ends_then, last_ends, stopped_more}

-- the first one was not written whole
pub first_stops : (stop : Stop) (a : List ℕ) (more : List Output) (d : DeskState)
    (s t : SinkState) → LineEnds (stopped_by (Unit {0}) stop) a s t
    → Stopped stop (only_line a ++ more) d d s t
first_stops stop a more d s t h =
    stopped_more stop (only_line a) more d d s t
    (last_ends (stopped_by (Unit {0}) stop) a d s t h)

-- the first one was, and so ended what follows it
pub then_ends : {A : Type 0} (result : Result A Stop) (a : List ℕ) (more : List Output)
    (d : DeskState) (s u t : SinkState) → LineEnds (done (tt {0})) a s u
    → Ends result more d d u t → Ends result (only_line a ++ more) d d s t
then_ends result a more d s u t h ends =
    ends_then (tt {0}) result (only_line a) more d d d s u t
    (last_ends (done (tt {0})) a d s u h) ends
