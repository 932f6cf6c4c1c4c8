use Rattle.std.proofs.Common.{length, ◌-◌, ◌≡◌, ◌≤◌, drop}
use Rattle.sota_text.specs.Spans.{fields_from}
use Rattle.sota_text.proofs.fields.skip_blanks.Given as goal

abbrev pub invariant-loop-at : goal.invariant-loop-at
invariant-loop-at l = record {
  within_start : l.start ≤ l.at;
  within_end : l.at ≤ length l.line;
  same : fields_from l.at (drop l.at l.line) ≡ fields_from l.start (drop l.start l.line);
}

abbrev pub decreases-loop-at : goal.decreases-loop-at
decreases-loop-at l = length l.line - l.at
