use Rattle.std.proofs.Common.{◌+◌, ◌<◌, length, slice_index, arith, rules}
use Rattle.sota_block.specs.Meeting.{low_half, high_half}
use Rattle.sota_block.proofs.Eight.{get_or-eight}
use Rattle.sota_block.proofs.Crossings.{crossed-le, crossed-halves}
use Rattle.sota_block.proofs.dense.crossed_sums.Goals as goal

pub add_crossed-requires : goal.add_crossed-requires
add_crossed-requires c = record {
  before = c.requires.before;
  within = c.requires.within;
  low_room = omega arith;
  high_room = omega arith;
  low_fits = λ j below.
      omega (arith, crossed-le low_half c.args.masses.now c.args.values.now (c.args.at + j) 4294967295 (λ a. omega arith), c.requires.few, get_or-eight 0 j below);
  high_fits = λ j below.
      let most = crossed-le high_half c.args.masses.now c.args.values.now (c.args.at + j) 4294967295 (λ a. let small : slice_index c.args.values.now a < 18446744073709551616 = search rules in omega arith) in
      omega (arith, most, c.requires.few, get_or-eight 0 j below);
}

pub returns-clause-sums : goal.returns-clause-sums
returns-clause-sums c = λ j below.
    omega (arith, get_or-eight 0 j below, c.join.ensures j (omega arith), c.add_crossed.ensures.low_sums j below, c.add_crossed.ensures.high_sums j below, crossed-halves c.args.masses.now c.args.values.now (c.args.at + j) (length c.args.masses.now))

pub returns-clause-small : goal.returns-clause-small
returns-clause-small c = λ j below.
    let low = crossed-le low_half c.args.masses.now c.args.values.now (c.args.at + j) 4294967295 (λ a. omega arith) in
    let high = crossed-le high_half c.args.masses.now c.args.values.now (c.args.at + j) 4294967295 (λ a. let small : slice_index c.args.values.now a < 18446744073709551616 = search rules in omega arith) in
    omega (arith, get_or-eight 0 j below, low, high, c.requires.few, c.join.ensures j (omega arith), c.add_crossed.ensures.low_sums j below, c.add_crossed.ensures.high_sums j below)
