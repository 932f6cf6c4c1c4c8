use Rattle.std.proofs.Common.{ℕ, subst}
use Rattle.sota_kept.specs.TableLists.{AreTables}
use Rattle.sota_tables.specs.Views.{lists_of}
use Rattle.sota_plan.proofs.steps.settle.Goals as goal

pub returns-clause-ready : goal.returns-clause-ready
returns-clause-ready c =
    let region = c.args.region.now in
    let held : AreTables (lists_of c.args.tables.now) c.args.network.now.nodes =
    subst (λ (n : ℕ). AreTables (lists_of c.args.tables.now) n) c.requires.kept.nodes.0 (c.views_are_lists.ensures.tables c.args.tables.now c.take_steps.ensures.valid) in
    c.tables_stay_right.ensures.prepared c.args.network.now region.origin region.dest region.budget (lists_of c.args.tables.now) (lists_of c.take_steps.new.tables) c.requires.valid c.requires.kept held c.take_steps.ensures.prepared

pub returns-clause-state : goal.returns-clause-state
returns-clause-state c =
    let region = c.args.region.now in
    let held : AreTables (lists_of c.args.tables.now) c.args.network.now.nodes =
    subst (λ (n : ℕ). AreTables (lists_of c.args.tables.now) n) c.requires.kept.nodes.0 (c.views_are_lists.ensures.tables c.args.tables.now c.take_steps.ensures.valid) in
    c.tables_stay_right.ensures.prepared_state c.args.network.now region.origin region.dest region.budget (lists_of c.args.tables.now) (lists_of c.take_steps.new.tables) held c.take_steps.ensures.prepared
