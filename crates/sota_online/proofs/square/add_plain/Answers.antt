use Rattle.std.proofs.Common.{rules, ℕ, ◌<◌, length, slice_index, arith}
use Rattle.sota_block.proofs.Meetings.{joined_is, low-le, high-le}
use Rattle.sota_block.proofs.Folding.{at_most}
use Rattle.sota_online.proofs.square.add_plain.Goals as goal

pub add_block-requires-clause-low_fits : goal.add_block-requires-clause-low_fits
add_block-requires-clause-low_fits g c = λ k below.
    omega (arith, low-le c.args.masses.now (λ a. slice_index c.args.values.now a) (length c.args.values.now) k, c.requires.square.low_fits k below)

pub add_block-requires-clause-high_fits : goal.add_block-requires-clause-high_fits
add_block-requires-clause-high_fits g c = λ k below.
    let small : (a : ℕ) → slice_index c.args.values.now a < 18446744073709551616 = λ a. search rules in
    omega (arith, high-le c.args.masses.now (λ a. slice_index c.args.values.now a) (length c.args.values.now) k small, c.requires.square.high_fits k below)

pub returns-clause-added : goal.returns-clause-added
returns-clause-added g c =
    let masses = c.args.masses.now in
    let f : ℕ → ℕ = λ a. slice_index c.args.values.now a in
    let size = length c.args.values.now in
    let small : (a : ℕ) → f a < 18446744073709551616 = λ a. search rules in
    record {
      sums = λ k below. joined_is masses f size k _ _ _ _ (c.add_block.ensures.low k below) (c.add_block.ensures.high k (omega arith));
      low_small = λ k below. omega (arith, low-le masses f size k, c.add_block.ensures.low k below);
      high_small = λ k below. omega (arith, high-le masses f size k small, c.add_block.ensures.high k below);
    }

pub add_block-requires-clause-short : goal.add_block-requires-clause-short
add_block-requires-clause-short g c = at_most (length c.args.values.now) c.requires.square.block
