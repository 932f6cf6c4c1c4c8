use Rattle.std.proofs.Common.{ℕ, ◌≡◌, ◌+◌, ◌*◌, Some, refl, sym, ◌∙◌, ap, subst}
use Rattle.std.proofs.lemmas.Bool.{eq-eqb}
use Rattle.sota_network.specs.Network.{Net}
use Rattle.sota_network.specs.Region.{need}
use Rattle.sota_bounds.specs.declared.ask.AskRegion.{AskRegion}
use Rattle.sota_network.specs.Laws.{ListLaws}
use Rattle.sota_kept.specs.Ticks.{least_to}
use Rattle.sota_kept.specs.States.{State, front_of, base_of, grown_state, missing_in}
use Rattle.sota_kept.specs.TableLists.{state_of}
use Rattle.sota_tables.specs.Views.{TablesView, lists_of, table_at}
use Rattle.sota_quantile.proofs.Fresh.{grown-front, has-bounds}
use Rattle.sota_quantile.proofs.planned.fill.Goals as goal

pub returns-clause-bounds : goal.returns-clause-bounds
returns-clause-bounds g c =
    let net : Net = c.args.network.now in
    let region : AskRegion = c.args.region.now in
    let valid = c.nodes.ensures.valid in
    let lists : ListLaws = c.lists_by_number.ensures in
    let first : State = state_of (lists_of c.in_ok-tables.tables) in
    let mid : TablesView = c.prepare.new.tables in
    let new : TablesView = c.extend.new.tables in
    let state : state_of (lists_of new) ≡ grown_state net region.origin region.dest region.budget (state_of (lists_of mid)) =
    subst (λ (r : AskRegion). state_of (lists_of new) ≡ grown_state net r.origin r.dest r.budget (state_of (lists_of mid))) c.in_ok-run.ensures.region c.extend.ensures.state in
    let none : front_of (state_of (lists_of mid)) region.origin ≡ 0 =
    ap (λ (s : State). front_of s region.origin) c.in_ok-run.ensures.state
    ∙ c.asks_miss.ensures.front net region.origin region.dest region.budget region.origin first c.in_ok-tables.ensures.dest c.requires.origin in
    let began : base_of (state_of (lists_of mid)) region.origin ≡ least_to net region.dest region.origin =
    ap (λ (s : State). base_of s region.origin) c.in_ok-run.ensures.state
    ∙ c.asks_miss.ensures.base net region.origin region.dest region.budget region.origin first c.in_ok-tables.ensures.dest c.requires.origin in
    let to : new.dest ≡ Some region.dest = ap (λ (s : State). s.dest) state ∙ c.in_ok-run.ensures.ready.dest ∙ ap (λ (r : AskRegion). Some r.dest) c.in_ok-run.ensures.region in
    let front : (table_at new region.origin).front ≡ need net region.origin region.dest region.budget region.origin =
    ap (λ (s : State). front_of s region.origin) state ∙ grown-front lists net region.origin region.dest region.budget (state_of (lists_of mid)) region.origin c.requires.origin none in
    let base : (table_at new region.origin).base ≡ least_to net region.dest region.origin = ap (λ (s : State). base_of s region.origin) state ∙ began in
    has-bounds net region.origin region.dest region.budget new c.requires.origin to c.extend.ensures.settled (c.views_are_lists.ensures.table new region.origin)
    (λ s off ready met. c.needs_are_met.ensures.asked net region.origin region.dest region.budget s valid c.requires.budget off ready met)
    front base
    (λ i t s settled below. c.settled_entries.ensures.lower net region.dest i t s settled below)
    (λ i t s settled below. c.settled_entries.ensures.upper net region.dest i t s settled below)
    (λ t. c.grid_recurs.ensures.lower net region.dest region.dest t valid ∙ (rw (eq-eqb region.dest region.dest refl) refl))
    (λ t. c.grid_recurs.ensures.upper net region.dest region.dest t valid ∙ (rw (eq-eqb region.dest region.dest refl) refl))

pub returns-clause-count : goal.returns-clause-count
returns-clause-count g c =
    let net : Net = c.args.network.now in
    let region : AskRegion = c.args.region.now in
    let mid : TablesView = c.prepare.new.tables in
    let pushed : c.extend.new.pushes ≡ c.args.pushes.now + 3 * missing_in net region.origin region.dest region.budget (state_of (lists_of mid)) =
    subst (λ (r : AskRegion). c.extend.new.pushes ≡ c.args.pushes.now + 3 * missing_in net r.origin r.dest r.budget (state_of (lists_of mid))) c.in_ok-run.ensures.region c.extend.ensures.count in
    let cells : missing_in net region.origin region.dest region.budget (state_of (lists_of mid)) ≡ region.table_cells =
    ap (missing_in net region.origin region.dest region.budget) c.in_ok-run.ensures.state
    ∙ c.asks_miss.ensures.cells net region.origin region.dest region.budget (state_of (lists_of c.in_ok-tables.tables)) c.nodes.ensures.valid c.requires.budget c.in_ok-tables.ensures.dest
    ∙ sym c.requires.region.table_cells in
    pushed ∙ ap (λ (n : ℕ). c.args.pushes.now + 3 * n) cells
