use Rattle.std.proofs.Common.{ℕ, ◌≡◌, ◌+◌, length, Some, sym, ◌∙◌, ap, arith}
use Rattle.sota_network.specs.Network.{Net}
use Rattle.sota_network.specs.Grid.{plain_sum}
use Rattle.sota_network.specs.declared.network.Arc.{Arc}
use Rattle.sota_kept.specs.Ticks.{least_to}
use Rattle.sota_tables.specs.Views.{table_at}
use Rattle.sota_fill.specs.Bounds.{grid_in, summer_in, value_in}
use Rattle.sota_fill.specs.Fed.{AreFed}
use Rattle.sota_fill.proofs.Summed.{fed-as, reads-as, sums-agree, fed-lent}
use Rattle.sota_fill.proofs.bests.sums_of.Goals as goal

pub least-requires : goal.least-requires
least-requires g c = (c.requires.fed c.numbered-arc.result.now c.in-Some.two.now c.numbered-arc.ensures.value (sym c.in-Some.ensures)).open_arc

pub broad_sums-requires-clause-known : goal.broad_sums-requires-clause-known
broad_sums-requires-clause-known g c =
    let net : Net = c.args.sources.now.target.now.network.now in
    let arc : Arc = c.numbered-arc.result.now in
    let two = c.in-Some.two.now in
    let fed = fed-as g.Z.Summer.state net c.args.sources.now.target.now.dest arc c.args.from (c.args.from + length c.args.into.now) two c.args.bound (c.requires.fed arc two c.numbered-arc.ensures.value (sym c.in-Some.ensures)) in
    let lent : length (g.Z.Summer.state c.of.result.now).values ≡ length (g.Z.Summer.state (summer_in c.args.bound two)).values = ap (λ z. length (g.Z.Summer.state z).values) c.of.ensures in
    omega (arith, fed.1.1, lent, c.base-base.ensures, c.get-in-Some.ensures, c.least.ensures.value)

pub broad_sums-requires-clause-start : goal.broad_sums-requires-clause-start
broad_sums-requires-clause-start g c =
    let net : Net = c.args.sources.now.target.now.network.now in
    let arc : Arc = c.numbered-arc.result.now in
    let two = c.in-Some.two.now in
    let fed = fed-as g.Z.Summer.state net c.args.sources.now.target.now.dest arc c.args.from (c.args.from + length c.args.into.now) two c.args.bound (c.requires.fed arc two c.numbered-arc.ensures.value (sym c.in-Some.ensures)) in
    let lent : (g.Z.Summer.state c.of.result.now).start ≡ (g.Z.Summer.state (summer_in c.args.bound two)).start = ap (λ z. (g.Z.Summer.state z).start) c.of.ensures in
    omega (arith, fed.1.0, lent, c.base-base.ensures, c.get-in-Some.ensures, c.least.ensures.value)

pub returns-in-Some-clause-sums : goal.returns-in-Some-clause-sums
returns-in-Some-clause-sums g c = λ other at x h.
    let net : Net = c.args.sources.now.target.now.network.now in
    let dest : ℕ = c.args.sources.now.target.now.dest in
    let arc : Arc = c.numbered-arc.result.now in
    let two = c.in-Some.two.now in
    let fed : AreFed g.Z.Summer.state net dest arc c.args.from (c.args.from + length c.args.into.now) two = c.requires.fed arc two c.numbered-arc.ensures.value (sym c.in-Some.ensures) in
    let is = fed-as g.Z.Summer.state net dest arc c.args.from (c.args.from + length c.args.into.now) two c.args.bound fed in
    let same : arc ≡ other = (let both : Some arc ≡ Some other = sym c.numbered-arc.ensures.value ∙ at in cc) in
    c.broad_sums.ensures.sums arc.time (grid_in c.args.bound net dest arc.head) c.numbered-arc.ensures.valid.time (sym (c.get-in-Some.ensures ∙ c.least.ensures.value))
    (fed-lent g.Z.Summer.state c.of.result.now (summer_in c.args.bound two) arc.time c.base-base.result (least_to net dest arc.head) (grid_in c.args.bound net dest arc.head) c.of.ensures c.base-base.ensures is.0) x h
    ∙ sums-agree (grid_in c.args.bound net dest arc.head) (value_in c.args.bound dest (table_at c.args.sources.now.tables.now) arc.head) c.args.from x (length c.args.into.now) arc.time c.numbered-arc.ensures.valid.time h
    (reads-as net dest arc (c.args.from + length c.args.into.now) (table_at c.args.sources.now.tables.now) c.args.bound (c.requires.reads arc c.numbered-arc.ensures.value) fed.open_arc)
    ∙ ap (λ (a : Arc). plain_sum a (value_in c.args.bound dest (table_at c.args.sources.now.tables.now)) (c.args.from + x)) same
