use Rattle.std.proofs.Common.{ℕ, ◌≡◌, ◌+◌, ◌-◌, ◌<◌, ◌≤◌, length, slice_index}
use Rattle.sota_network.specs.Grid.{weighed}
use Rattle.sota_sums.specs.Rows.{row_at}
use Rattle.sota_sums.proofs.sums.arc_sums.Given as goal

abbrev pub invariant-loop-done : goal.invariant-loop-done
invariant-loop-done l = record {
  room : length l.into ≡ l.count;
  done : l.done ≤ l.count;
  sums : (x : ℕ) → x < l.done → slice_index l.into x ≡ weighed (row_at l.row l.base) (l.from + x) l.time;
}

abbrev pub decreases-loop-done : goal.decreases-loop-done
decreases-loop-done l = l.count - l.done
