use Rattle.std.proofs.Common.{◌≡◌, ◌≤◌, ◌+◌, ◌-◌, take, vec_len}
use Rattle.std.specs.Io.KnownBytes.{Consumes}
use Rattle.sota.proofs.reading.read_all.Given as goal

abbrev pub invariant-loop-done : goal.invariant-loop-done
invariant-loop-done g l = record {
  most : l.most ≡ l.limit + 1;
  within : l.done ≤ vec_len l.bytes;
  ends : vec_len l.bytes ≤ l.most;
  read : Consumes (g.R.Read.remaining l.fn.reader) (g.R.Read.remaining l.reader) (take l.done l.bytes.items);
}

abbrev pub decreases-loop-done : goal.decreases-loop-done
decreases-loop-done g l = l.most - l.done
