use Rattle.std.proofs.Common.{ℕ, ◌<◌, ◌≤◌, slice_index, length, arith}
use Rattle.std.proofs.lemmas.List.Elements.{All-from_get_or}
use Rattle.sota_units.specs.Rounding.{ONE}
use Rattle.sota_block.proofs.Meetings.{folded_small}
use Rattle.sota_online.proofs.Widened.{widened_few, folded_is}
use Rattle.sota_online.proofs.folded.add_folded.Goals as goal

pub product_fold-requires-clause-masses : goal.product_fold-requires-clause-masses
product_fold-requires-clause-masses g c = omega (arith, widened_few _ _ c.widen_masses.ensures, c.requires.square.few)

pub product_fold-requires-clause-values : goal.product_fold-requires-clause-values
product_fold-requires-clause-values g c = All-from_get_or (λ v. v ≤ ONE) _ 0 (λ i below. rw c.widen_values.ensures (c.requires.square.small i))

pub add_wide-requires-clause-low_fits : goal.add_wide-requires-clause-low_fits
add_wide-requires-clause-low_fits g c = λ k below.
    let is = folded_is _ c.args.masses.now _ c.args.values.now k _ c.widen_masses.ensures c.widen_values.ensures (c.product_fold.ensures.coefficients k (omega arith)) in
    let small = folded_small c.args.masses.now c.args.values.now k (slice_index c.product_fold.new.into k) c.requires.square.small is in
    omega (arith, small.0, c.requires.square.low_fits k below)

pub add_wide-requires-clause-high_fits : goal.add_wide-requires-clause-high_fits
add_wide-requires-clause-high_fits g c = λ k below.
    let is = folded_is _ c.args.masses.now _ c.args.values.now k _ c.widen_masses.ensures c.widen_values.ensures (c.product_fold.ensures.coefficients k (omega arith)) in
    let small = folded_small c.args.masses.now c.args.values.now k (slice_index c.product_fold.new.into k) c.requires.square.small is in
    omega (arith, small.1, c.requires.square.high_fits k (omega arith))

pub returns-clause-added : goal.returns-clause-added
returns-clause-added g c =
    let is = λ (k : ℕ) (inside : k < length c.args.low.now). folded_is _ c.args.masses.now _ c.args.values.now k _ c.widen_masses.ensures c.widen_values.ensures (c.product_fold.ensures.coefficients k (omega arith)) in
    let small = λ (k : ℕ) (inside : k < length c.args.low.now). folded_small c.args.masses.now c.args.values.now k (slice_index c.product_fold.new.into k) c.requires.square.small (is k inside) in
    record {
      sums = λ k below. omega (arith, is k below, c.add_wide.ensures.low k below, c.add_wide.ensures.high k (omega arith));
      low_small = λ k below. omega (arith, (small k below).0, c.add_wide.ensures.low k below);
      high_small = λ k below. omega (arith, (small k (omega arith)).1, c.add_wide.ensures.high k (omega arith));
    }
