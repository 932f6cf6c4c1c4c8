use Rattle.std.proofs.Common.{ℕ, ◌≡◌, ◌+◌, ◌-◌, length, refl, ap, take, drop, arith}
use Rattle.sota_block.specs.Meeting.{low_half, high_half}
use Rattle.sota_block.proofs.Crossings.{skips-part}
use Rattle.sota_block.proofs.eights.add_eight.Goals as goal

pub add_skipping-requires-clause-eight : goal.add_skipping-requires-clause-eight
add_skipping-requires-clause-eight c = record {
  before = c.window-place.ensures.before;
  within = c.window-place.ensures.within;
  low_room = c.requires.low_room;
  high_room = c.requires.high_room;
  low_fits = λ j below. omega (arith, c.window-place.ensures.same low_half j refl below, c.requires.low_fits j below);
  high_fits = λ j below. omega (arith, c.window-place.ensures.same high_half j refl below, c.requires.high_fits j below);
}

pub returns-clause-low : goal.returns-clause-low
returns-clause-low c = λ j below. omega (arith, c.window-place.ensures.same low_half j refl below, c.add_skipping.ensures.low_sums j below)

pub returns-clause-high : goal.returns-clause-high
returns-clause-high c = λ j below. omega (arith, c.window-place.ensures.same high_half j refl below, c.add_skipping.ensures.high_sums j below)

pub add_skipping-requires-clause-skips : goal.add_skipping-requires-clause-skips
add_skipping-requires-clause-skips c =
    let first : ℕ = c.args.at + 8 - c.window-place.result.1 in
    let n = length c.window-place.result.0.now in
    let width : first + n - first ≡ n = omega arith in
    skips-part c.args.masses.now c.args.skips.now c.window-place.result.0.now _ c.args.shift first n c.requires.skips c.window-place.ensures.inside c.window-place.ensures.met (ap (λ (m : ℕ). take m (drop first c.args.skips.now)) width)
