use Rattle.std.proofs.Common.{length, ◌-◌, ◌≡◌, ◌≤◌, ◌<◌, ℕ, get_or, false}
use Rattle.sota_text.specs.Text.{is_blank}
use Rattle.sota_text.proofs.fields.skip_field.Given as goal

abbrev pub invariant-loop-at : goal.invariant-loop-at
invariant-loop-at l = record {
  within_start : l.start < l.at;
  within_end : l.at ≤ length l.line;
  field : (k : ℕ) → l.start ≤ k → k < l.at → is_blank (get_or l.line k 0) ≡ false;
}

abbrev pub decreases-loop-at : goal.decreases-loop-at
decreases-loop-at l = length l.line - l.at
