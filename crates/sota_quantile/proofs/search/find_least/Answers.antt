use Rattle.std.proofs.Common.{ℕ, ◌+◌, ◌≤◌, sym, arith}
use Rattle.sota_quantile.specs.Bounds.{bound_in}
use Rattle.sota_quantile.proofs.Least.{first-is, none-is}
use Rattle.sota_quantile.proofs.search.find_least.Goals as goal

pub returns-then-from-most : goal.returns-then-from-most
returns-then-from-most c =
    let value : ℕ → ℕ = bound_in c.args.bound c.args.tables.now c.args.node in
    let held = c.loop-from.invariant in
    let enough : c.args.confidence ≤ value c.loop-from.from = held.high c.loop-from.from c.loop-from-test.false c.if-from-most.true in
    sym (first-is value c.args.confidence 0 (c.args.most + 1) c.loop-from.from (omega arith) (omega (arith, c.if-from-most.true)) enough (λ t low down. held.low t down))

pub returns-else-from-most : goal.returns-else-from-most
returns-else-from-most c =
    let held = c.loop-from.invariant in
    sym (none-is (bound_in c.args.bound c.args.tables.now c.args.node) c.args.confidence 0 (c.args.most + 1) (λ t low high. held.low t (omega (arith, high, c.if-from-most.false))))
