use Rattle.std.proofs.Common.{◌≤◌, length, ◌∙◌, arith}
use Rattle.sota_session.proofs.Started.{first-state}
use Rattle.sota_session.proofs.session.Session.new.Goals as goal

pub returns-clause-state : goal.returns-clause-state
returns-clause-state c =
    let made = c.in_ok-tables.ensures in
    let v = c.in_ok-tables.tables in
    first-state c.lists_by_number.ensures.items
    c.args.network.nodes v.dest v.fronts v.bases made.dest (made.nodes ∙ c.nodes.ensures.value) (made.bases ∙ c.nodes.ensures.value)
    (λ i low high. made.fronts i (low, (let here : i ≤ length v.fronts = omega (arith, high, made.nodes, c.nodes.ensures.value) in here)))
    (λ i low high. made.base i (low, (let here : i ≤ length v.fronts = omega (arith, high, made.nodes, c.nodes.ensures.value) in here)))
