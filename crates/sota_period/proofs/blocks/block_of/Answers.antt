use Rattle.std.proofs.Common.{ℕ, ◌≡◌, ◌≤◌, false, List, take, subst, ◌∙◌, arith}
use Rattle.std.specs.List.{All}
use Rattle.std.proofs.lemmas.List.{take_all}
use Rattle.std.proofs.lemmas.List.Elements.{All-more, All-weaker}
use Rattle.sota_hist.specs.Time.{is_closed, least_tick}
use Rattle.sota_network.specs.declared.network.Arc.{Arc}
use Rattle.sota_period.specs.Rows.{TakesAtLeast}
use Rattle.sota_period.proofs.blocks.block_of.Goals as goal

pub loop-arc-preserved : goal.loop-arc-preserved
loop-arc-preserved c =
    let arcs : List Arc = c.arcs-arc-items.result.now in
    let k : ℕ = c.loop-arc.arc-index in
    let arc : Arc = c.arc-item.result in
    let Takes : ℕ → Arc → Type 0 = λ n a. is_closed a.time ≡ false → n ≤ least_tick a.time in
    let block : ℕ = c.min-block.result in
    let before : All (Takes block) (take k arcs) =
    All-weaker (Takes c.loop-arc.block) (Takes block) (λ a takes opened. omega (arith, takes opened, c.min-block.ensures)) (take k arcs) c.loop-arc.invariant.takes in
    let now : Takes block arc = λ opened. omega (arith, c.block_in.ensures.takes opened, c.min-block.ensures) in
    record {
      positive = omega (arith, c.loop-arc.invariant.positive, c.block_in.ensures.within.0, c.min-block.ensures);
      within = omega (arith, c.loop-arc.invariant.within, c.min-block.ensures);
      takes = All-more (Takes block) arcs k arc c.loop-arc-test.true before (subst (Takes block) c.arc-item.is now);
    }

pub returns-clause-takes : goal.returns-clause-takes
returns-clause-takes c =
    subst (λ (arcs : List Arc). TakesAtLeast c.loop-arc.block arcs) (take_all c.loop-arc.arc-index c.arcs-arc-items.result.now c.loop-arc-test.false ∙ c.arcs-arc-items.ensures.value) c.loop-arc.invariant.takes
