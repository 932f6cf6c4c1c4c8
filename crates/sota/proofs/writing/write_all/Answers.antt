use Rattle.std.proofs.Common.{◌+◌, ◌-◌, length, drop, arith, length-take-le, length-drop}
use Rattle.sota.proofs.Given.{appends_more}
use Rattle.sota.proofs.writing.write_all.Goals as goal

pub loop-done-preserved : goal.loop-done-preserved
loop-done-preserved g c = record {
  within = omega (
    arith,
    c.in_ok-count.ensures.bound,
    c.loop-done.invariant.within,
    length-take-le (length c.args.bytes.now - c.loop-done.done) (drop c.loop-done.done c.args.bytes.now),
    length-drop c.loop-done.done c.args.bytes.now,
  );
  wrote = appends_more _ _ _ c.args.bytes.now c.loop-done.done c.in_ok-count.count
      c.loop-done.invariant.wrote c.in_ok-count.ensures.bytes;
}
