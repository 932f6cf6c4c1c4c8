use Rattle.std.proofs.Common.{ℕ, ◌≡◌, ◌+◌, ◌-◌, ◌≤◌, slice_index, sym, ap, ◌∙◌, arith}
use Rattle.sota_network.specs.Grid.{weighed}
use Rattle.sota_sums.proofs.Tiles.{sum-above}
use Rattle.sota_sums.proofs.sums.tile_at.Goals as goal

pub returns-clause-sums : goal.returns-clause-sums
returns-clause-sums c = λ j h.
    let v : ℕ → ℕ = λ u. slice_index c.args.row.now u in
    let up : c.args.base ≤ c.args.budget + j = omega (arith, c.requires.above) in
    let place : c.args.budget - c.args.base + j ≡ c.args.budget + j - c.args.base = omega (arith, c.requires.above) in
    c.tile_sums.ensures j h ∙ ap (λ (t : ℕ). weighed v t c.args.time.now) place ∙ sym (sum-above c.args.row.now c.args.base (c.args.budget + j) c.args.time.now up)
