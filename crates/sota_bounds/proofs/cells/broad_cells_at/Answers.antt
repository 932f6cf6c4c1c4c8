use Rattle.std.proofs.Common.{ℕ, ◌≡◌, ◌≤◌, ◌==◌, List, length, take, sym, ◌∙◌, ap, subst, arith}
use Rattle.std.specs.List.{sum_by}
use Rattle.std.proofs.lemmas.List.{take_all}
use Rattle.std.proofs.lemmas.List.Sums.{sum_by_more}
use Rattle.sota_network.specs.Network.{arc_at}
use Rattle.sota_network.specs.declared.network.Arc.{Arc}
use Rattle.sota_bounds.specs.Cells.{broad_cells_at}
use Rattle.sota_bounds.proofs.Leaving.{broad_if, sum-leaving, no-pairs}
use Rattle.sota_bounds.proofs.cells.broad_cells_at.Goals as goal

pub returns-then-pairs-eq0-clause-value : goal.returns-then-pairs-eq0-clause-value
returns-then-pairs-eq0-clause-value c =
    let arcs : List Arc = c.args.network.now.arcs in
    sym (ap (λ (n : ℕ). broad_cells_at c.args.budget n c.args.node arcs) c.if-pairs-eq0.true ∙ no-pairs c.args.budget c.args.node arcs)

pub overflow_add-cells : goal.overflow_add-cells
overflow_add-cells c =
    let few : length c.leaving-number-items.result.now ≤ length c.args.network.now.arcs =
    subst (λ (xs : List ℕ). length xs ≤ length c.args.network.now.arcs) (sym c.leaving-number-items.ensures.value) (c.numbers_of_arcs.ensures.few c.args.network.now (λ (arc : Arc). arc.tail == c.args.node)) in
    omega (arith, few, c.loop-number-test.true, c.loop-number.invariant.within, c.broad_at-cells.ensures.within, c.requires.arcs)

pub loop-number-preserved : goal.loop-number-preserved
loop-number-preserved c =
    let items : List ℕ = c.leaving-number-items.result.now in
    let value : ℕ → ℕ = λ e. broad_if c.args.budget c.args.pairs (arc_at c.args.network.now e) in
    let here : value c.number-item.result ≡ c.broad_at-cells.result = ap (broad_if c.args.budget c.args.pairs) c.numbered.ensures.value ∙ sym c.broad_at-cells.ensures.value in
    record {
      value = omega (arith, c.loop-number.invariant.value, here, ap value c.number-item.is, sum_by_more value items c.loop-number.number-index c.number-item.result c.loop-number-test.true);
      within = omega (arith, c.loop-number.invariant.within, c.broad_at-cells.ensures.within);
    }

pub returns-clause-value : goal.returns-clause-value
returns-clause-value c =
    let items : List ℕ = c.leaving-number-items.result.now in
    let value : ℕ → ℕ = λ e. broad_if c.args.budget c.args.pairs (arc_at c.args.network.now e) in
    let whole : take c.loop-number.number-index items ≡ items = take_all c.loop-number.number-index items (omega (arith, c.loop-number-test.false)) in
    c.loop-number.invariant.value ∙ ap (sum_by value) whole ∙ ap (sum_by value) c.leaving-number-items.ensures.value ∙ sum-leaving c.args.network.now c.args.budget c.args.pairs c.args.node

pub returns-clause-within : goal.returns-clause-within
returns-clause-within c =
    let few : length c.leaving-number-items.result.now ≤ length c.args.network.now.arcs =
    subst (λ (xs : List ℕ). length xs ≤ length c.args.network.now.arcs) (sym c.leaving-number-items.ensures.value) (c.numbers_of_arcs.ensures.few c.args.network.now (λ (arc : Arc). arc.tail == c.args.node)) in
    omega (arith, few, c.loop-number.auto.number-index-end, c.loop-number.invariant.within, c.requires.arcs)
