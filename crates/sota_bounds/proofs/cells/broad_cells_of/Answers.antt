use Rattle.std.proofs.Common.{rules, ℕ, ◌≡◌, ◌+◌, ◌-◌, ◌<◌, ◌≤◌, length, get_or, None, sym, ◌∙◌, ap, arith}
use Rattle.std.proofs.lemmas.List.{get_or_default}
use Rattle.std.proofs.lemmas.List.Elements.{All-weaker}
use Rattle.sota_network.specs.Network.{IsArc}
use Rattle.sota_network.specs.declared.network.Arc.{Arc}
use Rattle.sota_bounds.specs.Cells.{pairs_by_lists, broad_cells_at}
use Rattle.sota_bounds.specs.Search.{time_at}
use Rattle.sota_bounds.proofs.Leaving.{up-to-none, up-to-more, up-to-all}
use Rattle.sota_bounds.proofs.cells.broad_cells_of.Goals as goal

pub loop-index-init : goal.loop-index-init
loop-index-init c =
    let net = c.args.network.now in
    record {
      value = sym (up-to-none c.args.budget c.args.least.now c.args.needs.now net.arcs (All-weaker (IsArc net) (λ (arc : Arc). 1 ≤ arc.tail) (λ arc valid. valid.tail.0) net.arcs c.nodes-index-end.ensures.valid.arcs));
      within = omega arith;
    }

pub returns : goal.returns
returns c =
    let net = c.args.network.now in
    let index : c.loop-index.index ≡ net.nodes = omega (arith, c.loop-index-test.false, c.loop-index.auto.index-end, c.nodes-index-end.ensures.value) in
    c.loop-index.invariant.value
    ∙ up-to-all c.args.budget c.args.least.now c.args.needs.now c.loop-index.index net.arcs (All-weaker (IsArc net) (λ (arc : Arc). arc.tail ≤ c.loop-index.index) (λ arc valid. omega (arith, valid.tail.1, index)) net.arcs c.nodes-index-end.ensures.valid.arcs)

pub loop-index-preserved : goal.loop-index-preserved
loop-index-preserved c =
    let index : ℕ = c.loop-index.index in
    let within : index < length c.args.least.now = omega (arith, c.loop-index-test.true, c.nodes-index-end.ensures.value, c.requires.nodes) in
    let time : get_or c.args.least.now index None ≡ c.index-least-index.result =
    get_or_default c.args.least.now index None c.index-least-index.result within ∙ sym c.index-least-index.is in
    let read : time_at c.args.least.now (index + 1) ≡ c.index-least-index.result =
    ap (λ (place : ℕ). get_or c.args.least.now place None) (let place : index + 1 - 1 ≡ index = omega arith in place) ∙ time in
    let pairs : c.pairs_of-pairs.result ≡ pairs_by_lists c.args.least.now c.args.needs.now (index + 1) = rw read (search rules) in
    let here : c.broad_cells_at-cells.result ≡ broad_cells_at c.args.budget (pairs_by_lists c.args.least.now c.args.needs.now (index + 1)) (index + 1) c.args.network.now.arcs =
    c.broad_cells_at-cells.ensures.value ∙ ap (λ (n : ℕ). broad_cells_at c.args.budget n (index + 1) c.args.network.now.arcs) pairs in
    record {
      value = omega (arith, c.loop-index.invariant.value, here, up-to-more c.args.budget c.args.least.now c.args.needs.now index c.args.network.now.arcs);
      within = omega (arith, c.loop-index.invariant.within, c.broad_cells_at-cells.ensures.within);
    }
