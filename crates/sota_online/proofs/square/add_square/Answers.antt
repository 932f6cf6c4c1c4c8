use Rattle.std.proofs.Common.{count_by, nat_lt, ◌≤◌, length, slice_index, arith}
use Rattle.std.proofs.Math.Nat.{mul-le-mul_right}
use Rattle.sota_block.proofs.Meetings.{meeting-none}
use Rattle.sota_online.proofs.square.add_square.Goals as goal

pub returns-then-some-eq0-clause-added : goal.returns-then-some-eq0-clause-added
returns-then-some-eq0-clause-added g c = record {
  sums = λ k below. omega (arith, meeting-none c.args.masses.now (λ a. slice_index c.args.values.now a) (length c.args.values.now) k (c.some_masses-some.ensures.none c.if-some-eq0.true));
  low_small = λ k below. omega arith;
  high_small = λ k below. omega arith;
}

pub add_plain-requires-clause-taken : goal.add_plain-requires-clause-taken
add_plain-requires-clause-taken g c =
    let more : count_by (λ m. nat_lt 0 m) c.args.masses.now ≤ c.some_masses-some.result = omega (arith, c.some_masses-some.ensures.count) in
    mul-le-mul_right (length c.args.values.now) more
