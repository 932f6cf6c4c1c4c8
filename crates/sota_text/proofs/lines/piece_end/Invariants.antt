use Rattle.std.proofs.Common.{length, ◌-◌, ◌≡◌, ◌≤◌, ◌<◌, ℕ, get_or, false}
use Rattle.sota_text.specs.Text.{is_line_end}
use Rattle.sota_text.proofs.lines.piece_end.Given as goal

abbrev pub invariant-loop-at : goal.invariant-loop-at
invariant-loop-at l = record {
  within_start : l.start ≤ l.at;
  within_end : l.at ≤ length l.bytes;
  piece : (k : ℕ) → l.start ≤ k → k < l.at → is_line_end (get_or l.bytes k 0) ≡ false;
}

abbrev pub decreases-loop-at : goal.decreases-loop-at
decreases-loop-at l = length l.bytes - l.at
