use Rattle.std.proofs.Common.{ℕ, ◌≡◌, ◌+◌, map, sym, ◌∙◌, subst, arith}
use Rattle.sota_network.specs.Network.{Net, IsArc}
use Rattle.sota_period.specs.declared.ask.Ask.{Ask}
use Rattle.sota_period.specs.Rows.{asked_net}
use Rattle.sota_period.specs.Broad.{SummerList, AreSummers, summer_state, first_summer_state}
use Rattle.sota_period.proofs.Feeding.{start-summers, later-summers}
use Rattle.sota_period.proofs.Filling.{valid-held, nodes-held}
use Rattle.sota_period.proofs.blocks.fill_period.Goals as goal

pub make_summers-requires-clause-nodes : goal.make_summers-requires-clause-nodes
make_summers-requires-clause-nodes g c =
    nodes-held c.network_laws.ensures c.args.ask.now c.requires.ask c.args.network.now c.args.from (c.requires.holds c.args.from (omega arith) c.requires.some) ∙ sym c.requires.ask.needs.count

pub loop-at-init : goal.loop-at-init
loop-at-init g c =
    let ask : Ask = c.args.ask.now in
    let net : Net = c.args.network.now in
    let here : (asked_net ask).at c.args.from ≡ net = c.requires.holds c.args.from (omega arith) c.requires.some in
    let made : map (summer_state g.Z.Summer.state) c.in_ok-summers.summers.items ≡ map (first_summer_state ask.needs.now c.args.from) net.arcs = c.in_ok-summers.ensures.states in
    record {
      low = omega arith;
      high = omega (arith, c.requires.some);
      rows = c.requires.rows;
      summers = subst (λ (xs : SummerList g.row.Z.Denot). AreSummers g.Z.Summer.state c.args.rows.now net c.args.from c.in_ok-workspace.workspace xs) (sym c.as_mut_slice-broad.ensures.value)
          (subst (λ (places : ℕ). AreSummers g.Z.Summer.state c.args.rows.now net c.args.from places c.in_ok-summers.summers.items) (sym c.in_ok-workspace.ensures)
          (start-summers g.Z.Summer.state c.in_ok-summers.summers.items net ask.needs.now c.args.from made c.in_ok-summers.places c.in_ok-summers.ensures.places c.args.rows.now
          (λ e arc at.
          let v : IsArc net arc = c.network_laws.ensures.arc net e arc (valid-held c.network_laws.ensures ask c.requires.ask net c.args.from here) at in
          c.requires.rows.room arc.head v.head.0 (omega (arith, v.head.1, nodes-held c.network_laws.ensures ask c.requires.ask net c.args.from here)))));
    }

pub fill_block-requires-clause-block : goal.fill_block-requires-clause-block
fill_block-requires-clause-block g c = record {
  asked = c.requires.ask;
  some = omega (arith, c.min-count.ensures, c.block_of-most.ensures.within.0, c.loop-at-test.true);
  few = omega (arith, c.min-count.ensures, c.block_of-most.ensures.within.1);
  limit = omega (arith, c.min-count.ensures, c.loop-at-test.true, c.requires.limit);
  holds = λ t low high. c.requires.holds t (omega (arith, low, c.loop-at.invariant.low)) (omega (arith, high, c.min-count.ensures, c.loop-at-test.true));
  takes = λ k d less opened. omega (arith, c.block_of-most.ensures.takes k d less opened, c.min-count.ensures);
}

pub loop-at-preserved : goal.loop-at-preserved
loop-at-preserved g c = record {
  low = omega (arith, c.loop-at.invariant.low);
  high = omega (arith, c.min-count.ensures, c.loop-at-test.true);
  rows = c.fill_block.ensures.rows;
  summers = later-summers (c.loop-at.at + c.min-count.result) (omega arith) c.fill_block.ensures.summers;
}
