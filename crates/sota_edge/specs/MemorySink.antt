-- What a sink in memory means whose puts fail as planned.
use Rattle.std.specs.Prelude.{ℕ, List, Some}
use Rattle.sota_edge.specs.Sink.{SinkState}

-- What was written, the most that a put takes, the numbers of the puts that fail, and how many puts
-- there were, how many of them failed and how many found no memory.
pub record MemorySinkState : Type 0 where
  pub text : List ℕ
  pub chunk : ℕ
  pub fails : List ℕ
  pub puts : ℕ
  pub faults : ℕ
  pub shortages : ℕ

abbrev pub memory_sink_state : MemorySinkState → SinkState
memory_sink_state sink = record {
  written = Some sink.text;
  faults = sink.faults;
  shortages = sink.shortages;
}
