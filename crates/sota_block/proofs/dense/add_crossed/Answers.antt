use Rattle.std.proofs.Common.{◌≡◌, ℕ, ◌<◌, ◌+◌, length, slice_index, get_or, sym, ap, ◌∙◌, arith}
use Rattle.std.proofs.lemmas.Simd.{get_or-chunk, put_chunk_whole}
use Rattle.sota_block.specs.Meeting.{low_half, high_half}
use Rattle.sota_block.proofs.Crossings.{lane-more, partial-le, partial-zero}
use Rattle.sota_block.proofs.dense.add_crossed.Goals as goal
use Rattle.sota_block.proofs.dense.add_crossed.Goals.{then-mass-ne0, else-mass-ne0}

pub loop-b-init : goal.loop-b-init
loop-b-init c = record {
  low = λ j below.
      let place : 0 + j ≡ j = omega arith in
      get_or-chunk 0 8 c.args.low.now j 0 below ∙ ap (λ (n : ℕ). slice_index c.args.low.now n) place ∙ omega arith;
  high = λ j below.
      let place : 0 + j ≡ j = omega arith in
      get_or-chunk 0 8 c.args.high.now j 0 below ∙ ap (λ (n : ℕ). slice_index c.args.high.now n) place ∙ omega arith;
}

pub add_lows-low_sums-requires : goal.add_lows-low_sums-requires
add_lows-low_sums-requires c = record {
  fits = λ j below.
      let more = lane-more low_half c.args.masses.now c.args.values.now c.args.at c.loop-b.b j c.from-mass.result below (omega arith) c.from-mass.ensures in
      omega (arith, more, partial-le low_half c.args.masses.now c.args.values.now (c.args.at + j) (c.loop-b.b + 1) (omega arith), c.loop-b.invariant.low j below, c.requires.low_fits j below);
}

pub add_highs-high_sums-requires : goal.add_highs-high_sums-requires
add_highs-high_sums-requires c = record {
  fits = λ j below.
      let more = lane-more high_half c.args.masses.now c.args.values.now c.args.at c.loop-b.b j c.from-mass.result below (omega arith) c.from-mass.ensures in
      omega (arith, more, partial-le high_half c.args.masses.now c.args.values.now (c.args.at + j) (c.loop-b.b + 1) (omega arith), c.loop-b.invariant.high j below, c.requires.high_fits j below);
}

pub loop-b-preserved : goal.loop-b-preserved
loop-b-preserved c =
    let xs = c.args.masses.now in
    let vs = c.args.values.now in
    let b = c.loop-b.b in
    elim c.if-mass-ne0.branch [
      | then-mass-ne0 w ↦
          let more = λ (part : ℕ → ℕ) (j : ℕ) (below : j < 8). lane-more part xs vs c.args.at b j c.from-mass.result below (omega arith) c.from-mass.ensures in
          record {
            low = λ j below. rw (w.low_sums-is, w.add_lows-low_sums.ensures j below) (omega (arith, more low_half j below, c.loop-b.invariant.low j below));
            high = λ j below. rw (w.high_sums-is, w.add_highs-high_sums.ensures j below) (omega (arith, more high_half j below, c.loop-b.invariant.high j below));
          }
      | else-mass-ne0 w ↦
          let none : get_or xs b 0 ≡ 0 = sym c.from-mass.ensures ∙ w.if-mass-ne0.false in
          record {
            low = λ j below. rw w.low_sums-is (omega (arith, partial-zero low_half xs vs (c.args.at + j) b none, c.loop-b.invariant.low j below));
            high = λ j below. rw w.high_sums-is (omega (arith, partial-zero high_half xs vs (c.args.at + j) b none, c.loop-b.invariant.high j below));
          }
    ]

pub returns : goal.returns
returns c =
    let all : c.loop-b.b ≡ length c.args.masses.now = omega arith in
    record {
      low_sums = λ j below. rw (put_chunk_whole c.args.low.now c.loop-b.low_sums (omega arith), ← all) (c.loop-b.invariant.low j below);
      high_sums = λ j below. rw (put_chunk_whole c.args.high.now c.loop-b.high_sums (omega arith), ← all) (c.loop-b.invariant.high j below);
    }
