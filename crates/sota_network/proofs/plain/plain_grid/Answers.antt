-- Each row of the tables is that of the grid, since the rows below it are.
use Rattle.std.proofs.Common.{ℕ, ◌≡◌, ◌++◌, List, length, None, ap, ◌∙◌}
use Rattle.sota_network.specs.Network.{Net}
use Rattle.sota_network.specs.Grid.{lo, hi, choice}
use Rattle.sota_network.specs.Numbers.{listed}
use Rattle.sota_network.specs.Bests.{table_sum, bests_of, settled, chosen}
use Rattle.sota_network.specs.declared.plain.Best.{Best}
use Rattle.sota_network.specs.declared.plain.Rounding.TheVariants.{Down, Up}
use Rattle.sota_network.proofs.Bests.{length-bests}
use Rattle.sota_network.proofs.Tables.{filled-more}
use Rattle.sota_network.proofs.Fill.{lower-is, upper-is, chosen-is}
use Rattle.sota_network.proofs.plain.plain_grid.Goals as goal

pub loop-time-preserved : goal.loop-time-preserved
loop-time-preserved c =
    let net : Net = c.args.network.now in
    let n : ℕ = c.args.network.now.nodes in
    let t : ℕ = c.loop-time.time in
    let low : List Best = c.push_row.new.bests in
    let high : List Best = c.push_row-in-loop-time.new.bests in
    let low-is : low ≡ bests_of n net.arcs (table_sum c.loop-time.lower.items n t) = c.in_ok-push_row.ensures.bests in
    let high-is : high ≡ bests_of n net.arcs (table_sum c.loop-time.upper.items n t) = c.in_ok-push_row-2.ensures.bests in
    let low-row : c.push_row.new.values.items ≡ c.loop-time.lower.items ++ listed (settled Down net.scale c.args.dest low) n = c.in_ok-push_row.ensures.values in
    let high-row : c.push_row-in-loop-time.new.values.items ≡ c.loop-time.upper.items ++ listed (settled Up net.scale c.args.dest high) n = c.in_ok-push_row-2.ensures.values in
    let count : length low ≡ n = ap length low-is ∙ length-bests n net.arcs (table_sum c.loop-time.lower.items n t) in
    let choices-row : c.push_choices.new.choices.items ≡ c.loop-time.choices.items ++ listed (chosen c.args.dest low) n =
    c.in_ok-push_choices.ensures ∙ ap (λ (m : ℕ). c.loop-time.choices.items ++ listed (chosen c.args.dest low) m) count in
    record {
      lower = rw (low-row, low-is)
          (filled-more 0 c.loop-time.lower.items n t (lo net c.args.dest) _ c.loop-time.invariant.lower
          (lower-is net c.nodes-nodes.ensures.valid c.args.dest t c.loop-time.lower.items c.loop-time.invariant.lower));
      upper = rw (high-row, high-is)
          (filled-more 0 c.loop-time.upper.items n t (hi net c.args.dest) _ c.loop-time.invariant.upper
          (upper-is net c.nodes-nodes.ensures.valid c.args.dest t c.loop-time.upper.items c.loop-time.invariant.upper));
      choices = rw (choices-row, low-is)
          (filled-more None c.loop-time.choices.items n t (choice net c.args.dest) _ c.loop-time.invariant.choices
          (chosen-is net c.nodes-nodes.ensures.valid c.args.dest t c.loop-time.lower.items c.loop-time.invariant.lower));
      bests = ap length high-is ∙ length-bests n net.arcs (table_sum c.loop-time.upper.items n t);
    }
