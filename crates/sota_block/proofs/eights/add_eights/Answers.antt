use Rattle.std.proofs.Common.{◌*◌, ◌<◌, ◌≤◌, ⊎_elim, refl, arith}
use Rattle.std.proofs.lemmas.Bool.{cases_lt}
use Rattle.sota_block.specs.Meeting.{low_half, high_half}
use Rattle.sota_block.proofs.Crossings.{met_none}
use Rattle.sota_block.proofs.eights.add_eights.Goals as goal

pub returns-clause-low : goal.returns-clause-low
returns-clause-low c = λ k below.
    ⊎_elim (λ (there : k < 8 * c.loop-part.part). c.loop-part.invariant.low k there)
    (λ (past : 8 * c.loop-part.part ≤ k). omega (arith, c.loop-part.invariant.low_left k past, met_none low_half c.args.masses.now c.args.padded.now k refl c.requires.zeros_after (omega arith)))
    (cases_lt k (8 * c.loop-part.part))

pub returns-clause-high : goal.returns-clause-high
returns-clause-high c = λ k below.
    ⊎_elim (λ (there : k < 8 * c.loop-part.part). c.loop-part.invariant.high k there)
    (λ (past : 8 * c.loop-part.part ≤ k). omega (arith, c.loop-part.invariant.high_left k past, met_none high_half c.args.masses.now c.args.padded.now k refl c.requires.zeros_after (omega arith)))
    (cases_lt k (8 * c.loop-part.part))
