use Rattle.std.proofs.Common.{◌≡◌, ℕ, ◌+◌, ◌≤◌, List, take, length, refl, arith, length-take}
use Rattle.sota_block.specs.Meeting.{low_half, high_half}
use Rattle.sota_block.proofs.Meetings.{padded_is, zeros_after}
use Rattle.sota_block.proofs.eights.add_block.Goals as goal

long : (xs ys : List ℕ) (n : ℕ) → n + 16 ≤ length xs → length ys ≡ length (take (n + 16) xs) → length ys ≡ n + 16
long xs ys n room same = omega (arith, length-take (n + 16) xs)

pub add_eights-requires-clause-zeros_after : goal.add_eights-requires-clause-zeros_after
add_eights-requires-clause-zeros_after c = λ i from. zeros_after c.pad.new.padded (length c.args.values.now) i (long c.args.padded.now _ _ c.requires.padded_room (omega arith)) c.pad.ensures.after from

pub add_eights-requires-clause-low_fits : goal.add_eights-requires-clause-low_fits
add_eights-requires-clause-low_fits c = λ k below.
    omega (arith, padded_is low_half c.args.masses.now c.pad.new.padded c.args.values.now k refl c.requires.within (long c.args.padded.now _ _ c.requires.padded_room (omega arith)) c.pad.ensures.before c.pad.ensures.inside c.pad.ensures.after, c.requires.low_fits k below)

pub add_eights-requires-clause-high_fits : goal.add_eights-requires-clause-high_fits
add_eights-requires-clause-high_fits c = λ k below.
    omega (arith, padded_is high_half c.args.masses.now c.pad.new.padded c.args.values.now k refl c.requires.within (long c.args.padded.now _ _ c.requires.padded_room (omega arith)) c.pad.ensures.before c.pad.ensures.inside c.pad.ensures.after, c.requires.high_fits k below)

pub returns-clause-low : goal.returns-clause-low
returns-clause-low c = λ k below.
    omega (arith, padded_is low_half c.args.masses.now c.pad.new.padded c.args.values.now k refl c.requires.within (long c.args.padded.now _ _ c.requires.padded_room (omega arith)) c.pad.ensures.before c.pad.ensures.inside c.pad.ensures.after, c.add_eights.ensures.low k below)

pub returns-clause-high : goal.returns-clause-high
returns-clause-high c = λ k below.
    omega (arith, padded_is high_half c.args.masses.now c.pad.new.padded c.args.values.now k refl c.requires.within (long c.args.padded.now _ _ c.requires.padded_room (omega arith)) c.pad.ensures.before c.pad.ensures.inside c.pad.ensures.after, c.add_eights.ensures.high k below)
