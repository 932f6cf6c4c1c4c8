use Rattle.std.proofs.Common.{ℕ, ◌≡◌, ◌+◌, ◌<◌, ◌≤◌, min, length, get_or, slice_index, sym, ◌∙◌, ap, subst, arith, ⊎_elim}
use Rattle.std.proofs.lemmas.Bool.{cases_lt}
use Rattle.std.proofs.lemmas.List.{get_or_default}
use Rattle.sota_network.specs.Network.{Net}
use Rattle.sota_period.specs.declared.ask.Ask.{Ask}
use Rattle.sota_period.specs.Rows.{asked_need, asked_nodes, timed_row}
use Rattle.sota_period.proofs.Filling.{nodes-held, block-rows}
use Rattle.sota_period.proofs.blocks.fill_block.Goals as goal

pub extend_row-requires-clause-node : goal.extend_row-requires-clause-node
extend_row-requires-clause-node g c =
    let ask : Ask = c.args.block.now.ask.now in
    let net : Net = c.args.block.now.network.now in
    let from : ℕ = c.args.block.now.from in
    let k : ℕ = c.loop-node.node-index in
    let node : ℕ = c.node-item.result in
    let here = c.requires.block.asked.visited.only k node c.loop-node-test.true in
    let nodes : net.nodes ≡ asked_nodes ask = nodes-held c.network_laws.ensures ask c.requires.block.asked net from (c.requires.block.holds from (omega arith) (omega (arith, c.requires.block.some))) in
    let place : node ≡ get_or ask.visited.now k node = c.node-item.is in
    (omega (arith, place, here.0), omega (arith, place, here.1, nodes, c.requires.block.asked.needs.count))

pub extend_row-requires-clause-off : goal.extend_row-requires-clause-off
extend_row-requires-clause-off g c = λ same.
    (c.requires.block.asked.visited.only c.loop-node.node-index c.node-item.result c.loop-node-test.true).2 (sym c.node-item.is ∙ same)

pub loop-node-preserved : goal.loop-node-preserved
loop-node-preserved g c =
    let ask : Ask = c.args.block.now.ask.now in
    let k : ℕ = c.loop-node.node-index in
    let node : ℕ = c.node-item.result in
    let place : node ≡ slice_index ask.visited.now k = c.node-item.is ∙ get_or_default ask.visited.now k node 0 c.loop-node-test.true in
    record {
      rows = c.extend_row.ensures.rows;
      summers = c.extend_row.ensures.summers;
      done = λ m less.
          ⊎_elim
          (λ (early : m < k). omega (arith, c.loop-node.invariant.done m early, c.extend_row.ensures.longer.long (slice_index ask.visited.now m)))
          (λ (last : k ≤ m).
          let same : m ≡ k = omega arith in
          let at : node ≡ slice_index ask.visited.now m = place ∙ ap (λ (n : ℕ). slice_index ask.visited.now n) (sym same) in
          subst (λ (n : ℕ). min (c.args.block.now.from + c.args.block.now.count) (asked_need ask n) ≤ length (timed_row c.extend_row.new.rows n)) at
          c.extend_row.ensures.reach)
          (cases_lt m k);
    }

pub returns-clause-rows : goal.returns-clause-rows
returns-clause-rows g c =
    block-rows c.args.block.now.ask.now c.args.block.now.from (c.args.block.now.from + c.args.block.now.count) c.loop-node.rows c.requires.block.asked c.loop-node.invariant.rows
    (λ k less. c.loop-node.invariant.done k (omega (arith, less, c.loop-node-test.false)))
