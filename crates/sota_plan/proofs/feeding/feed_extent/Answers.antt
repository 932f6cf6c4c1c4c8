use Rattle.std.proofs.Common.{ℕ, ◌==◌, refl, sym, ◌∙◌, subst}
use Rattle.std.proofs.lemmas.Bool.{eq-eqb}
use Rattle.sota_network.specs.Network.{Net}
use Rattle.sota_network.specs.declared.network.Arc.{Arc}
use Rattle.sota_tables.specs.Views.{table_at}
use Rattle.sota_plan.specs.Summed.{AllCanFeed}
use Rattle.sota_plan.proofs.SumGoing.{out-tail, fed-first, fed-can, fed-some-more, fed-all}
use Rattle.sota_plan.proofs.feeding.feed_extent.Goals as goal

pub feed_arc-requires-clause-reads : goal.feed_arc-requires-clause-reads
feed_arc-requires-clause-reads g c = λ arc at.
    let net : Net = c.args.target.now.network.now in
    let tail = out-tail net c.args.node c.leaving-number-items.result.now c.loop-number.number-index c.number-item.result arc (c.numbers_of_arcs.ensures.only net (λ (a : Arc). a.tail == c.args.node)) c.leaving-number-items.ensures.value c.loop-number-test.true c.number-item.is at in
    c.extents_read_the_grid.ensures net c.args.target.now.dest c.args.node c.args.to (table_at c.args.tables.now) c.requires.valid c.requires.ready c.requires.extent c.number-item.result arc at tail

pub feed_arc-requires-clause-known : goal.feed_arc-requires-clause-known
feed_arc-requires-clause-known g c = λ arc at opened off.
    let net : Net = c.args.target.now.network.now in
    let tail = out-tail net c.args.node c.leaving-number-items.result.now c.loop-number.number-index c.number-item.result arc (c.numbers_of_arcs.ensures.only net (λ (a : Arc). a.tail == c.args.node)) c.leaving-number-items.ensures.value c.loop-number-test.true c.number-item.is at in
    c.requires.extent c.number-item.result arc at tail opened off

pub feed_arc-requires-clause-can : goal.feed_arc-requires-clause-can
feed_arc-requires-clause-can g c = λ arc two at is.
    let net : Net = c.args.target.now.network.now in
    let tail = out-tail net c.args.node c.leaving-number-items.result.now c.loop-number.number-index c.number-item.result arc (c.numbers_of_arcs.ensures.only net (λ (a : Arc). a.tail == c.args.node)) c.leaving-number-items.ensures.value c.loop-number-test.true c.number-item.is at in
    let can = subst (λ (n : ℕ). AllCanFeed g.Z.Summer.state net c.args.target.now.dest c.args.node c.args.to n c.args.broad.now) (sym c.loop-number.invariant.work) c.requires.can in
    fed-can g.Z.Summer.state net c.args.target.now.dest c.args.node c.args.to c.leaving-number-items.result.now c.loop-number.workspace c.loop-number.number-index c.args.broad.now c.loop-number.broad c.loop-number.invariant.fed can c.number-item.result arc two at tail is

pub loop-number-init : goal.loop-number-init
loop-number-init g c = record {
  fed = fed-first g.Z.Summer.state c.args.target.now.network.now c.args.target.now.dest c.args.node c.args.to c.leaving-number-items.result.now c.args.broad.now;
  work = refl;
}

pub loop-number-preserved : goal.loop-number-preserved
loop-number-preserved g c =
    let net : Net = c.args.target.now.network.now in
    record {
      fed = fed-some-more g.Z.Summer.state net c.args.target.now.dest c.args.node c.args.to c.leaving-number-items.result.now c.loop-number.number-index c.args.broad.now c.loop-number.broad c.feed_arc.new.broad c.number-item.result
          (λ arc at. out-tail net c.args.node c.leaving-number-items.result.now c.loop-number.number-index c.number-item.result arc (c.numbers_of_arcs.ensures.only net (λ (a : Arc). a.tail == c.args.node)) c.leaving-number-items.ensures.value c.loop-number-test.true c.number-item.is at)
          c.loop-number-test.true c.number-item.is c.loop-number.invariant.fed c.feed_arc.ensures.fed c.feed_arc.ensures.none c.feed_arc.ensures.others c.feed_arc.ensures.length;
      work = c.feed_arc.ensures.work ∙ c.loop-number.invariant.work;
    }

pub returns-clause-fed : goal.returns-clause-fed
returns-clause-fed g c = λ e arc count total start at tail summed less.
    let net : Net = c.args.target.now.network.now in
    fed-all g.Z.Summer.state net c.args.target.now.dest c.args.node c.args.to c.leaving-number-items.result.now c.loop-number.number-index c.args.broad.now c.loop-number.broad c.leaving-number-items.ensures.value c.loop-number-test.false c.loop-number.invariant.fed e arc count total start at tail
    (c.numbers_of_arcs.ensures.all net (λ (a : Arc). a.tail == c.args.node) e arc at (eq-eqb arc.tail c.args.node tail)) summed less
