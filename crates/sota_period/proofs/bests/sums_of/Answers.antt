use Rattle.std.proofs.Common.{ℕ, ◌≡◌, ◌+◌, ◌≤◌, Option, length, Some, sym, ◌∙◌, ap, arith}
use Rattle.sota_network.specs.Grid.{plain_sum}
use Rattle.sota_network.specs.declared.network.Arc.{Arc}
use Rattle.sota_period.specs.Rows.{timed_row, row_value}
use Rattle.sota_online.specs.Summer.{SummerState}
use Rattle.sota_period.specs.Broad.{AreSummers, IsFedArc, IsReadySummer, state_at}
use Rattle.sota_period.proofs.Feeding.{fed-summers, same-ready}
use Rattle.sota_period.proofs.bests.sums_of.Given as given
use Rattle.sota_period.proofs.bests.sums_of.Goals as goal
use Rattle.sota_period.proofs.bests.sums_of.Goals.{After-feed_arc}

pub feed_arc-requires-clause-work : goal.feed_arc-requires-clause-work
feed_arc-requires-clause-work g c = λ arc state at is. (c.requires.summers.ready c.args.number arc state at is).work

pub least-requires : goal.least-requires
least-requires g c = (c.feed_arc.ensures.fed c.args.number c.numbered-arc.result.now (g.Z.Summer.state c.in-Some.summer.now) c.numbered-arc.ensures.value (sym c.in-Some.ensures)).open_arc

pub broad_sums-requires-clause-known : goal.broad_sums-requires-clause-known
broad_sums-requires-clause-known g c =
    let arc : Arc = c.numbered-arc.result.now in
    let fed : IsFedArc c.args.rows.now arc (g.Z.Summer.state c.in-Some.summer.now) = c.feed_arc.ensures.fed c.args.number arc (g.Z.Summer.state c.in-Some.summer.now) c.numbered-arc.ensures.value (sym c.in-Some.ensures) in
    let reach : length (timed_row c.args.rows.now arc.head) ≤ length (g.Z.Summer.state c.in-Some.summer.now).values = c.feed_arc.ensures.reach arc (g.Z.Summer.state c.in-Some.summer.now) c.numbered-arc.ensures.value (sym c.in-Some.ensures) in
    omega (arith, reach, c.requires.read arc c.numbered-arc.ensures.value fed.open_arc, c.get-least.ensures, c.least.ensures.value)

pub broad_sums-requires-clause-start : goal.broad_sums-requires-clause-start
broad_sums-requires-clause-start g c =
    let arc : Arc = c.numbered-arc.result.now in
    let now : ℕ → Option SummerState = state_at g.Z.Summer.state c.feed_arc.new.broad in
    let ready : IsReadySummer arc c.args.from c.args.workspace.now (g.Z.Summer.state c.in-Some.summer.now) =
    same-ready c.args.network.now c.args.from c.args.workspace.now (state_at g.Z.Summer.state c.args.broad.now) now c.feed_arc.ensures.same c.requires.summers.ready
    c.args.number arc (g.Z.Summer.state c.in-Some.summer.now) c.numbered-arc.ensures.value (sym c.in-Some.ensures) in
    omega (arith, ready.start, c.get-least.ensures, c.least.ensures.value)

pub returns-in-Some-clause-sums : goal.returns-in-Some-clause-sums
returns-in-Some-clause-sums g c = λ other at x less.
    let arc : Arc = c.numbered-arc.result.now in
    let fed : IsFedArc c.args.rows.now arc (g.Z.Summer.state c.in-Some.summer.now) = c.feed_arc.ensures.fed c.args.number arc (g.Z.Summer.state c.in-Some.summer.now) c.numbered-arc.ensures.value (sym c.in-Some.ensures) in
    let same : arc ≡ other = (let both : Some arc ≡ Some other = sym c.numbered-arc.ensures.value ∙ at in cc) in
    c.broad_sums.ensures.sums arc.time (row_value c.args.rows.now arc.head) c.numbered-arc.ensures.valid.time (sym (c.get-least.ensures ∙ c.least.ensures.value)) fed.fed x less
    ∙ ap (λ (a : Arc). plain_sum a (row_value c.args.rows.now) (c.args.from + x)) same

-- feeding one of them leaves summers
still : (g : given.Over) (c : After-feed_arc g) (t : ℕ) → AreSummers g.Z.Summer.state c.args.rows.now c.args.network.now t c.args.workspace.now c.args.broad.now
    → AreSummers g.Z.Summer.state c.args.rows.now c.args.network.now t c.feed_arc.new.workspace c.feed_arc.new.broad
still g c = fed-summers g.Z.Summer.state c.args.rows.now c.args.network.now c.args.workspace.now c.feed_arc.new.workspace c.args.broad.now c.feed_arc.new.broad c.feed_arc.ensures.length c.feed_arc.ensures.fed c.feed_arc.ensures.same c.feed_arc.ensures.work

pub returns-in-Some-clause-summers : goal.returns-in-Some-clause-summers
returns-in-Some-clause-summers g c = still g (goal.at.returns-in-Some-clause-summers g c).After-feed_arc

pub returns-in-None-clause-summers : goal.returns-in-None-clause-summers
returns-in-None-clause-summers g c = still g (goal.at.returns-in-None-clause-summers g c).After-feed_arc
