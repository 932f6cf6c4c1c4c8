use Rattle.std.proofs.Common.{ℕ, refl}
use Rattle.sota_units.specs.Rounding.{ONE}
use Rattle.sota_fill.proofs.FedTo.{fed-to-fits, fed-to-more}
use Rattle.sota_fill.proofs.feed.feed_ones.Goals as goal

pub loop-fed-preserved : goal.loop-fed-preserved
loop-fed-preserved g c =
    fed-to-more (g.Z.Summer.state c.args.summer.now) (g.Z.Summer.state c.loop-fed.summer) (g.Z.Summer.state c.feed.new.self) c.args.count c.loop-fed.fed ONE (λ (a : ℕ). ONE) c.args.workspace.now c.loop-fed.workspace c.feed.new.workspace c.loop-fed.invariant c.loop-fed-test.true c.requires.room refl c.feed.ensures.state c.feed.ensures.work

pub feed-requires-clause-work : goal.feed-requires-clause-work
feed-requires-clause-work g c =
    fed-to-fits (g.Z.Summer.state c.args.summer.now) (g.Z.Summer.state c.loop-fed.summer) c.args.count c.loop-fed.fed _ c.args.workspace.now c.loop-fed.workspace c.loop-fed.invariant c.requires.work
