-- What a sink that never fails means.
use Rattle.std.specs.Prelude.{ℕ, List, Some}
use Rattle.sota_edge.specs.Sink.{SinkState}

-- what was written, and how many puts found no memory
pub record SureSinkState : Type 0 where
  pub text : List ℕ
  pub shortages : ℕ

-- the count of faults stands at 0, so that Failed, which raises it, is never answered
abbrev pub sure_sink_state : SureSinkState → SinkState
sure_sink_state sink = record {
  written = Some sink.text;
  faults = 0;
  shortages = sink.shortages;
}
