use Rattle.std.proofs.Common.{ℕ, ◌≡◌, ◌≤◌, List, length, sym, subst, ◌∙◌, ap, arith}
use Rattle.std.specs.List.{All}
use Rattle.sota_bounds.specs.Cells.{need_by_times}
use Rattle.sota_bounds.proofs.Counted.{need-few}
use Rattle.sota_bounds.proofs.cells.needs_of.Goals as goal

pub returns-clause-nodes : goal.returns-clause-nodes
returns-clause-nodes c =
    let count : length c.loop-index.needs.items ≡ c.loop-index.index = ap length c.loop-index.invariant ∙ c.lists_by_number.ensures.count (need_by_times c.args.dest c.args.budget c.args.least.now c.args.from.now) c.loop-index.index in
    omega arith

pub returns-clause-within : goal.returns-clause-within
returns-clause-within c =
    let needed : ℕ → ℕ = need_by_times c.args.dest c.args.budget c.args.least.now c.args.from.now in
    subst (λ (ns : List ℕ). All (λ n. n ≤ 65536) ns) (sym c.loop-index.invariant)
    (c.lists_by_number.ensures.within needed c.loop-index.index 65536 (need-few c.args.dest c.args.budget c.args.least.now c.args.from.now c.requires.budget))
