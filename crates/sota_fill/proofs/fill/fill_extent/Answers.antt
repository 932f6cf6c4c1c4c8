use Rattle.std.proofs.Common.{ℕ, ◌≡◌, ◌+◌, ◌-◌, ◌<◌, ◌≤◌, subst, arith}
use Rattle.sota_fill.specs.Fills.{IsLonger, IsUnfilled}
use Rattle.sota_fill.proofs.Pushing.{longer-more, unfilled-left}
use Rattle.sota_fill.proofs.Summed.{all-fed-less}
use Rattle.sota_fill.proofs.fill.fill_extent.Goals as goal

pub fill_part-requires-clause-unfilled : goal.fill_part-requires-clause-unfilled
fill_part-requires-clause-unfilled g c =
    let place : c.args.from + (c.loop-budget.budget - c.args.from) ≡ c.loop-budget.budget = omega (arith, c.loop-budget.invariant.low) in
    let to : ℕ = c.loop-budget.budget + c.min-count.result in
    let within : to ≤ c.args.to = omega (arith, c.min-count.ensures) in
    let some : c.args.from + (c.loop-budget.budget - c.args.from) < to = omega (arith, place, c.min-count.ensures) in
    subst (λ (n : ℕ). IsUnfilled c.args.target.now.network.now c.args.target.now.dest c.args.node n to c.loop-budget.tables) place
    (unfilled-left c.args.target.now.network.now (c.filling_laws.ensures c.args.target.now.network.now c.requires.unfilled.valid) c.args.target.now.dest c.args.node c.args.from c.args.to (c.loop-budget.budget - c.args.from) to c.args.tables.now c.loop-budget.tables
    c.requires.unfilled c.loop-budget.invariant.longer c.loop-budget.invariant.ready some within)

pub fill_part-requires-clause-fed : goal.fill_part-requires-clause-fed
fill_part-requires-clause-fed g c =
    let within : c.loop-budget.budget + c.min-count.result ≤ c.args.to = omega (arith, c.min-count.ensures) in
    all-fed-less g.Z.Summer.state c.args.target.now.network.now c.args.target.now.dest c.args.node c.args.from c.loop-budget.budget c.args.to (c.loop-budget.budget + c.min-count.result) c.args.broad.now c.requires.fed c.loop-budget.invariant.low within

pub loop-budget-preserved : goal.loop-budget-preserved
loop-budget-preserved g c =
    let both : IsLonger c.args.node (c.loop-budget.budget - c.args.from + c.min-count.result) c.args.tables.now c.fill_part.new.tables =
    longer-more c.args.node (c.loop-budget.budget - c.args.from) c.min-count.result c.args.tables.now c.loop-budget.tables c.fill_part.new.tables c.loop-budget.invariant.longer c.fill_part.ensures.longer in
    let count : c.loop-budget.budget - c.args.from + c.min-count.result ≡ c.loop-budget.budget + c.min-count.result - c.args.from = omega (arith, c.loop-budget.invariant.low) in
    record {
      low = omega (arith, c.loop-budget.invariant.low);
      high = omega (arith, c.min-count.ensures);
      ready = c.fill_part.ensures.ready;
      longer = subst (λ (n : ℕ). IsLonger c.args.node n c.args.tables.now c.fill_part.new.tables) count both;
      count = omega (arith, c.fill_part.ensures.count, c.loop-budget.invariant.count, c.loop-budget.invariant.low);
    }
