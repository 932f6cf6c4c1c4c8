use Rattle.std.proofs.Common.{ℕ, ◌+◌, ◌-◌, ◌*◌, length, ◌∙◌, arith}
use Rattle.sota_block.specs.Meeting.{crossed_by}
use Rattle.sota_block.proofs.Stretch.{stretch_all}
use Rattle.sota_block.proofs.Meetings.{zeros_there, zeros_after, narrow_is}
use Rattle.sota_block.proofs.narrow.multiply_narrow.Goals as goal

pub pad_narrow-requires-clause-zeros : goal.pad_narrow-requires-clause-zeros
pad_narrow-requires-clause-zeros c = zeros_there 48

pub eight_sums-requires-clause-zeros_after : goal.eight_sums-requires-clause-zeros_after
eight_sums-requires-clause-zeros_after c = λ i from. zeros_after c.pad_narrow.new.padded (length c.args.values.now) i (omega arith) c.pad_narrow.ensures.after from

pub returns : goal.returns
returns c = λ k below.
    c.loop-part.invariant k (omega arith)
    ∙ narrow_is c.args.kernel.now c.narrow_masses.new.into c.args.values.now c.pad_narrow.new.padded k c.narrow_masses.ensures (omega arith) (omega arith) c.pad_narrow.ensures.before c.pad_narrow.ensures.inside c.pad_narrow.ensures.after

pub loop-part-preserved : goal.loop-part-preserved
loop-part-preserved c = λ k below.
    let at : ℕ = c.loop-part.part * 8 in
    stretch_all at (at + 8 - at) c.loop-part.into c.eight_sums.new.into (omega arith) c.eight_sums.auto.into (λ i. crossed_by (λ v. v) c.narrow_masses.new.into c.pad_narrow.new.padded (i + 8))
    (λ j early. c.loop-part.invariant j (omega arith)) (λ j inside. c.eight_sums.ensures j (omega arith)) k (omega arith)
