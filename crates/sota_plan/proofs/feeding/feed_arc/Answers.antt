use Rattle.std.proofs.Common.{rules, ◌≡◌, ◌-◌, ◌≤◌, slice_set, Some, sym, ◌∙◌, subst, arith}
use Rattle.sota_network.specs.Network.{Net}
use Rattle.sota_network.specs.declared.network.Arc.{Arc}
use Rattle.sota_tables.specs.Views.{table_at}
use Rattle.sota_fill.specs.declared.broad.Summers.{Summers}
use Rattle.sota_fill.specs.Fed.{summers_at}
use Rattle.sota_plan.specs.Summed.{IsSummed, SummedAs, CanFeed, values_below}
use Rattle.sota_plan.proofs.FedMore.{summers-set, summed-more, fits-fed}
use Rattle.sota_plan.proofs.feeding.feed_arc.Goals as goal

pub feed_both-requires : goal.feed_both-requires
feed_both-requires g c =
    let net : Net = c.args.target.now.network.now in
    let arc : Arc = c.numbered-arc.result.now in
    let two : Summers g.row.Z.Denot = c.in-Some.two.now in
    let found : summers_at c.args.broad.now c.args.number ≡ Some two = sym c.in-Some.ensures.value in
    let can : CanFeed g.Z.Summer.state net c.args.target.now.dest arc c.args.to c.args.workspace.now two = c.requires.can arc two c.numbered-arc.ensures.value found in
    record {
      «open» = can.is.open_arc;
      base = search rules;
      head = search rules;
      above = search rules;
      known = λ off. c.requires.known arc c.numbered-arc.ensures.value can.is.open_arc off;
      lower_room = omega (arith, can.is.lower_total, can.room, c.base-base.ensures);
      upper_room = omega (arith, can.is.upper_total, can.room, c.base-base.ensures);
      lower_work = fits-fed (g.Z.Summer.state two.lower) can.total c.args.workspace.now arc.time _ _ can.is.lower can.is.lower_total can.work;
      upper_work = fits-fed (g.Z.Summer.state two.upper) can.total c.args.workspace.now arc.time _ _ can.is.upper can.is.upper_total can.work;
    }

pub returns-in-Some-clause-fed : goal.returns-in-Some-clause-fed
returns-in-Some-clause-fed g c = λ other count total start number summed less.
    let net : Net = c.args.target.now.network.now in
    let arc : Arc = c.numbered-arc.result.now in
    let two : Summers g.row.Z.Denot = c.in-Some.two.now in
    let found : summers_at c.args.broad.now c.args.number ≡ Some two = sym c.in-Some.ensures.value in
    let same : arc ≡ other = (let both : Some arc ≡ Some other = sym c.numbered-arc.ensures.value ∙ number in cc) in
    let one : summed.two ≡ two = (let both : Some summed.two ≡ Some two = sym summed.are ∙ found in cc) in
    let is : IsSummed g.Z.Summer.state net c.args.target.now.dest arc count total start two =
    subst (λ (s : Summers g.row.Z.Denot). IsSummed g.Z.Summer.state net c.args.target.now.dest arc count total start s) one
    (subst (λ (a : Arc). IsSummed g.Z.Summer.state net c.args.target.now.dest a count total start summed.two) (sym same) summed.is) in
    let fewer : count ≤ values_below net c.args.target.now.dest arc c.args.to = subst (λ (a : Arc). count ≤ values_below net c.args.target.now.dest a c.args.to) (sym same) less in
    let both = c.feed_both.ensures in
    subst (λ (a : Arc). SummedAs g.Z.Summer.state net c.args.target.now.dest a (values_below net c.args.target.now.dest a c.args.to) total start (summers_at (slice_set c.args.broad.now (c.args.number - 1) (Some c.feed_both.new.two)) c.args.number)) same
    (record {
      two = c.feed_both.new.two;
      are = summers-set c.args.broad.now c.args.number _ c.feed_both.new.two c.requires.number c.requires.broad;
      is = summed-more g.Z.Summer.state net c.args.target.now.dest arc count total start c.args.to c.base-base.result two c.feed_both.new.two (table_at c.args.tables.now) c.base-base.ensures is fewer (c.requires.reads arc c.numbered-arc.ensures.value)
          both.lower both.upper both.lower_count both.upper_count both.lower_same both.upper_same;
    })
