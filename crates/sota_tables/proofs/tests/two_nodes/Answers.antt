use Rattle.std.proofs.Common.{◌≡◌, [], length, sym, ◌∙◌, ap, arith}
use Rattle.sota_kept.specs.NodeTables.{NodeTable, known_end}
use Rattle.sota_kept.specs.TableLists.{TableLists, table_of}
use Rattle.sota_tables.specs.Views.{table_at}
use Rattle.sota_tables.proofs.Viewing.{table_of-held}
use Rattle.sota_tables.proofs.TwoNodes.{fresh, total-two}
use Rattle.sota_tables.proofs.tests.two_nodes.Goals as goal
use Rattle.sota_tables.proofs.tests.two_nodes.Goals.{After-rebase}

-- two nodes
long : (c : After-rebase) → length c.rebase.new.self.fronts ≡ 2
long c = c.rebase.ensures.nodes.nodes ∙ c.start.ensures.nodes.0 ∙ c.in_ok-tables.ensures.nodes

-- the tables of both
first : (c : After-rebase) → table_at c.rebase.new.self 1 ≡ record { front = 0; base = 1; lower = []; upper = []; choices = [] }
first c =
    fresh (table_at c.in_ok-tables.tables 1) (table_at c.start.new.self 1) (table_at c.rebase.new.self 1) 1 (c.start.ensures.tables 1 (omega arith, omega (arith, c.in_ok-tables.ensures.nodes)))
    (c.rebase.ensures.tables 1 (omega arith, omega (arith, c.start.ensures.nodes.0, c.in_ok-tables.ensures.nodes)))

second : (c : After-rebase) → table_at c.rebase.new.self 2 ≡ record { front = 0; base = 0; lower = []; upper = []; choices = [] }
second c =
    fresh (table_at c.in_ok-tables.tables 2) (table_at c.start.new.self 2) (table_at c.rebase.new.self 2) 0 (c.start.ensures.tables 2 (omega arith, omega (arith, c.in_ok-tables.ensures.nodes)))
    (c.rebase.ensures.tables 2 (omega arith, omega (arith, c.start.ensures.nodes.0, c.in_ok-tables.ensures.nodes)))

pub regrow-requires-clause-total : goal.regrow-requires-clause-total
regrow-requires-clause-total c =
    let made = (goal.at.regrow-requires-clause-total c).After-rebase in
    total-two c.rebase.new.self (long made) (ap (λ (s : NodeTable). s.front) (first made)) (ap (λ (s : NodeTable). s.front) (second made))

pub returns-clause-table : goal.returns-clause-table
returns-clause-table c =
    let made = (goal.at.returns-clause-table c).After-rebase in
    sym (table_of-held c.regrow.new.self 1) ∙ ap (λ (held : TableLists). table_of held 1) c.regrow.ensures.same ∙ table_of-held c.rebase.new.self 1 ∙ first made

pub returns-clause-room : goal.returns-clause-room
returns-clause-room c =
    let made = (goal.at.returns-clause-room c).After-rebase in
    let end : known_end (table_at c.rebase.new.self 1) ≡ 1 = ap known_end (first made) in
    let room = c.in_ok-regrow.ensures.room 1 (omega arith, omega (arith, long made)) in
    omega (arith, end, room)
