use Rattle.std.proofs.Common.{◌≡◌, ℕ, ◌+◌, ◌-◌, ◌<◌, min, length, slice_index_or, refl, arith}
use Rattle.std.proofs.lemmas.Simd.{put_chunk_whole}
use Rattle.sota_block.specs.Meeting.{low_half, high_half}
use Rattle.sota_block.proofs.Crossings.{partial-le, skip-lane, skip-rest}
use Rattle.sota_block.proofs.dense.add_skipping.Goals as goal
use Rattle.sota_block.proofs.dense.add_skipping.Goals.{then-next-masses, else-next-masses}

pub add_lows-low_sums-requires : goal.add_lows-low_sums-requires
add_lows-low_sums-requires c = record {
  fits = λ j below.
      let next : ℕ = slice_index_or c.args.skips.now c.loop-b.b 0 - c.args.shift in
      let more = skip-lane low_half c.args.masses.now c.args.skips.now c.args.values.now c.args.shift c.args.at c.loop-b.b next j c.from-mass.result c.requires.skips c.loop-b-test.true refl c.if-next-masses.true below (omega arith) c.from-mass.ensures in
      omega (arith, more, partial-le low_half c.args.masses.now c.args.values.now (c.args.at + j) (next + 1) (omega arith), c.loop-b.invariant.low j below, c.requires.eight.low_fits j below);
}

pub add_highs-high_sums-requires : goal.add_highs-high_sums-requires
add_highs-high_sums-requires c = record {
  fits = λ j below.
      let next : ℕ = slice_index_or c.args.skips.now c.loop-b.b 0 - c.args.shift in
      let more = skip-lane high_half c.args.masses.now c.args.skips.now c.args.values.now c.args.shift c.args.at c.loop-b.b next j c.from-mass.result c.requires.skips c.loop-b-test.true refl c.if-next-masses.true below (omega arith) c.from-mass.ensures in
      omega (arith, more, partial-le high_half c.args.masses.now c.args.values.now (c.args.at + j) (next + 1) (omega arith), c.loop-b.invariant.high j below, c.requires.eight.high_fits j below);
}

pub loop-b-preserved : goal.loop-b-preserved
loop-b-preserved c =
    let xs = c.args.masses.now in
    let ys = c.args.skips.now in
    let vs = c.args.values.now in
    let next : ℕ = slice_index_or ys c.loop-b.b 0 - c.args.shift in
    elim c.if-next-masses.branch [
      | then-next-masses w ↦
          let to : min (next + 1) (length xs) ≡ next + 1 = omega (arith, w.if-next-masses.true) in
          let more = λ (part : ℕ → ℕ) (j : ℕ) (below : j < 8). skip-lane part xs ys vs c.args.shift c.args.at c.loop-b.b next j w.from-mass.result c.requires.skips c.loop-b-test.true refl w.if-next-masses.true below (omega (arith, w.if-next-masses.true)) w.from-mass.ensures in
          record {
            low = λ j below. rw (to, w.low_sums-is, w.add_lows-low_sums.ensures j below) (omega (arith, more low_half j below, c.loop-b.invariant.low j below));
            high = λ j below. rw (to, w.high_sums-is, w.add_highs-high_sums.ensures j below) (omega (arith, more high_half j below, c.loop-b.invariant.high j below));
          }
      | else-next-masses w ↦
          let to : min (next + 1) (length xs) ≡ length xs = omega (arith, w.if-next-masses.false) in
          let rest = λ (part : ℕ → ℕ) (j : ℕ). skip-rest part xs ys vs c.args.shift (c.args.at + j) c.loop-b.b next c.requires.skips c.loop-b-test.true refl (omega (arith, w.if-next-masses.false)) in
          record {
            low = λ j below. rw (to, w.low_sums-is) (omega (arith, rest low_half j, c.loop-b.invariant.low j below));
            high = λ j below. rw (to, w.high_sums-is) (omega (arith, rest high_half j, c.loop-b.invariant.high j below));
          }
    ]

pub returns : goal.returns
returns c =
    let all : min c.loop-b.b (length c.args.masses.now) ≡ length c.args.masses.now = omega arith in
    record {
      low_sums = λ j below. rw (put_chunk_whole c.args.low.now c.loop-b.low_sums (omega arith), ← all) (c.loop-b.invariant.low j below);
      high_sums = λ j below. rw (put_chunk_whole c.args.high.now c.loop-b.high_sums (omega arith), ← all) (c.loop-b.invariant.high j below);
    }
