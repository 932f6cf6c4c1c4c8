use Rattle.std.proofs.Common.{rules, ◌≡◌, ◌+◌, ◌≤◌, sym, ◌∙◌, arith}
use Rattle.sota_tables.specs.Views.{table_at}
use Rattle.sota_plan.proofs.FedMore.{lower-read, upper-read, lower-one, upper-one}
use Rattle.sota_plan.proofs.feeding.feed_both.Goals as goal

pub returns-then-eq-clause-lower : goal.returns-then-eq-clause-lower
returns-then-eq-clause-lower g c = λ f fed agree.
    let here : c.args.arc.now.head ≡ c.args.dest = search rules in
    c.feed_ones.ensures.fed c.args.arc.now.time c.args.base f fed
    (λ a less. sym (lower-one c.args.dest c.args.arc.now.head (c.args.base + a) (f (c.args.base + a)) (table_at c.args.tables.now) here (agree (c.args.base + a) (omega arith) (omega (arith, less)))))

pub returns-then-eq-clause-upper : goal.returns-then-eq-clause-upper
returns-then-eq-clause-upper g c = λ f fed agree.
    let here : c.args.arc.now.head ≡ c.args.dest = search rules in
    c.feed_ones-then-eq.ensures.fed c.args.arc.now.time c.args.base f fed
    (λ a less. sym (upper-one c.args.dest c.args.arc.now.head (c.args.base + a) (f (c.args.base + a)) (table_at c.args.tables.now) here (agree (c.args.base + a) (omega arith) (omega (arith, less)))))

pub returns-else-eq-clause-lower : goal.returns-else-eq-clause-lower
returns-else-eq-clause-lower g c = λ f fed agree.
    let off : c.args.arc.now.head ≡ c.args.dest → ⊥ = search rules in
    let up : c.base.result ≤ c.args.base = (let low = c.requires.above off in omega (arith, low, c.base.ensures.value)) in
    c.feed_row.ensures.fed c.args.arc.now.time c.args.base f fed
    (λ a less.
    lower-read c.args.dest c.args.arc.now.head (table_at c.args.tables.now) c.lower_row.result.now c.args.base c.base.result a off c.lower_row.ensures.value c.base.ensures.value up
    ∙ agree (c.args.base + a) (omega arith) (omega (arith, less)))

pub returns-else-eq-clause-upper : goal.returns-else-eq-clause-upper
returns-else-eq-clause-upper g c = λ f fed agree.
    let off : c.args.arc.now.head ≡ c.args.dest → ⊥ = search rules in
    let up : c.base.result ≤ c.args.base = (let low = c.requires.above off in omega (arith, low, c.base.ensures.value)) in
    c.feed_row-else-eq.ensures.fed c.args.arc.now.time c.args.base f fed
    (λ a less.
    upper-read c.args.dest c.args.arc.now.head (table_at c.args.tables.now) c.upper_row.result.now c.args.base c.base.result a off c.upper_row.ensures.value c.base.ensures.value up
    ∙ agree (c.args.base + a) (omega arith) (omega (arith, less)))
