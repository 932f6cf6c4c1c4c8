use Rattle.sota_tables.specs.Views.{lists_of}
use Rattle.sota_session.specs.State.{IsLeft}
use Rattle.sota_session.proofs.Results.{on-err}
use Rattle.sota_session.proofs.plan.plan.Goals as goal

pub returns-in_err-grow-clause-left : goal.returns-in_err-grow-clause-left
returns-in_err-grow-clause-left g c =
    on-err c.from_residual-in_err-grow.result (IsLeft c.args.roads.now c.args.ask.now (lists_of c.args.tables.now) (lists_of c.grow.new.tables))
    (rw (← c.in_ok-region.ensures.made.asked.0, ← c.in_ok-region.ensures.made.asked.1, ← c.in_ok-region.ensures.made.asked.2) (rw (c.network-2.ensures, c.in_ok-region.ensures.same) at c.in_err-grow.ensures.left))

pub returns-clause-state : goal.returns-clause-state
returns-clause-state g c = rw (← c.in_ok-region.ensures.made.asked.0, ← c.in_ok-region.ensures.made.asked.1, ← c.in_ok-region.ensures.made.asked.2) (rw (c.network-2.ensures, c.in_ok-region.ensures.same) at c.in_ok-grow.ensures.state)

pub returns-clause-count : goal.returns-clause-count
returns-clause-count g c = rw (← c.in_ok-region.ensures.made.asked.0, ← c.in_ok-region.ensures.made.asked.1, ← c.in_ok-region.ensures.made.asked.2) (rw (c.network-2.ensures, c.in_ok-region.ensures.same) at c.in_ok-grow.ensures.count)
