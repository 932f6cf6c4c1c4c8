use Rattle.std.proofs.Common.{ℕ, ◌≡◌, ◌+◌, ◌-◌, ◌*◌, ◌<◌, ◌≤◌, List, length, get_or, ◌∙◌, ap, arith}
use Rattle.sota_network.specs.Network.{Net}
use Rattle.sota_network.specs.Grid.{best_sum}
use Rattle.sota_kept.specs.NodeTables.{lower_in, upper_in}
use Rattle.sota_tables.specs.Views.{TablesView, table_at}
use Rattle.sota_fill.specs.Fills.{IsUnfilled}
use Rattle.sota_fill.specs.Laws.{Fillable}
use Rattle.sota_fill.proofs.Below.{floor-lower, bests-order}
use Rattle.sota_fill.proofs.Pushing.{reads-grid}
use Rattle.sota_fill.proofs.fill.fill_part.Goals as goal

pub find_bests-requires-clause-reads : goal.find_bests-requires-clause-reads
find_bests-requires-clause-reads g c =
    let is = c.requires.unfilled in
    reads-grid c.args.target.now.network.now (c.filling_laws.ensures c.args.target.now.network.now is.valid) c.args.target.now.dest (table_at c.args.tables.now) is.ready c.args.node (c.args.from + c.args.count) is.extent

-- the last lower value of a node, by its row, is a floor of its best sums
floor-below : (net : Net) → Fillable net → (dest i from count x floor : ℕ) (tables : TablesView) (row : List ℕ) → IsUnfilled net dest i from (from + count) tables → x < count
    → row ≡ (table_at tables i).lower → floor ≡ get_or row (length row - 1) 0 → net.scale * floor ≤ best_sum net (lower_in dest (table_at tables)) i (from + x)
floor-below net laws dest i from count x floor tables row is less read last =
    floor-lower net laws dest (table_at tables) i (from + x) floor is.off (is.ready i is.node is.off) (last ∙ ap (λ (xs : List ℕ). get_or xs (length xs - 1) 0) read) (omega (arith, is.start))
    (laws.entry dest i (from + x) (table_at tables) is.off is.ready (λ j u reads. laws.known dest i (from + count) (from + x) j u (table_at tables) is.extent (omega arith) reads))

pub find_bests-requires-clause-lower_floor : goal.find_bests-requires-clause-lower_floor
find_bests-requires-clause-lower_floor g c = λ x less.
    let net : Net = c.args.target.now.network.now in
    floor-below net (c.filling_laws.ensures net c.requires.unfilled.valid) c.args.target.now.dest c.args.node c.args.from c.args.count x c.last_value-floor.result c.args.tables.now c.lower_row.result.now c.requires.unfilled less
    c.lower_row.ensures.value c.last_value-floor.ensures

pub find_bests-requires-clause-upper_floor : goal.find_bests-requires-clause-upper_floor
find_bests-requires-clause-upper_floor g c = λ x less.
    let net : Net = c.args.target.now.network.now in
    let dest : ℕ = c.args.target.now.dest in
    let laws = c.filling_laws.ensures net c.requires.unfilled.valid in
    let lower : net.scale * c.last_value-floor.result ≤ best_sum net (lower_in dest (table_at c.args.tables.now)) c.args.node (c.args.from + x) =
    floor-below net laws dest c.args.node c.args.from c.args.count x c.last_value-floor.result c.args.tables.now c.lower_row.result.now c.requires.unfilled less c.lower_row.ensures.value c.last_value-floor.ensures in
    let order : best_sum net (lower_in dest (table_at c.args.tables.now)) c.args.node (c.args.from + x) ≤ best_sum net (upper_in dest (table_at c.args.tables.now)) c.args.node (c.args.from + x) =
    bests-order net laws dest (table_at c.args.tables.now) c.requires.unfilled.ready c.args.node (c.args.from + x) in
    omega (arith, lower, order)
