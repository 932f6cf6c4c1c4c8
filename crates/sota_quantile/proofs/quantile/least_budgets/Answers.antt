use Rattle.std.proofs.Common.{sym, ◌∙◌}
use Rattle.sota_network.specs.Grid.{lo, hi}
use Rattle.sota_tables.specs.Views.{known_lower, known_upper}
use Rattle.sota_quantile.proofs.Known.{bounds-rise, least-is}
use Rattle.sota_quantile.proofs.quantile.least_budgets.Goals as goal

pub find_least-requires-clause-rises : goal.find_least-requires-clause-rises
find_least-requires-clause-rises g c =
    bounds-rise (known_upper c.in_ok-tables.tables c.args.origin) (hi c.args.network.now c.args.dest c.args.origin) c.args.most c.in_ok-tables.ensures.bounds.upper
    (λ t u later. c.values_rise.ensures.upper c.args.network.now c.args.dest c.args.origin t u c.check_range.ensures.valid later)

pub find_least-requires-2-clause-rises : goal.find_least-requires-2-clause-rises
find_least-requires-2-clause-rises g c =
    bounds-rise (known_lower c.in_ok-tables.tables c.args.origin) (lo c.args.network.now c.args.dest c.args.origin) c.args.most c.in_ok-tables.ensures.bounds.lower
    (λ t u later. c.values_rise.ensures.lower c.args.network.now c.args.dest c.args.origin t u c.check_range.ensures.valid later)

pub returns-clause-early : goal.returns-clause-early
returns-clause-early g c =
    least-is (known_upper c.in_ok-tables.tables c.args.origin) (hi c.args.network.now c.args.dest c.args.origin) c.args.most c.in_ok-tables.ensures.bounds.upper c.args.confidence c.find_least.result c.find_least.ensures

pub returns-clause-sure : goal.returns-clause-sure
returns-clause-sure g c =
    least-is (known_lower c.in_ok-tables.tables c.args.origin) (lo c.args.network.now c.args.dest c.args.origin) c.args.most c.in_ok-tables.ensures.bounds.lower c.args.confidence c.find_least-2.result c.find_least-2.ensures

pub returns-clause-none : goal.returns-clause-none
returns-clause-none g c = λ none t within reached.
    c.needs_by_trees.ensures.none c.args.network.now c.args.dest c.args.origin c.args.confidence c.args.most t c.check_range.ensures.valid (sym (returns-clause-early g c) ∙ none) within reached

pub returns-clause-too_early : goal.returns-clause-too_early
returns-clause-too_early g c = λ a t some early reached.
    c.needs_by_trees.ensures.below c.args.network.now c.args.dest c.args.origin c.args.confidence c.args.most a t c.check_range.ensures.valid (sym (returns-clause-early g c) ∙ some) early reached

pub returns-clause-in_time : goal.returns-clause-in_time
returns-clause-in_time g c = λ b some.
    (c.needs_by_trees.ensures.within c.args.network.now c.args.dest c.args.origin c.args.confidence c.args.most b c.check_range.ensures.valid (sym (returns-clause-sure g c) ∙ some)).1
