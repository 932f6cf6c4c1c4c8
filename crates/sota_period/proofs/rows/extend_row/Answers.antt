use Rattle.std.proofs.Common.{ℕ, ◌≡◌, ◌+◌, ◌-◌, min, length, ◌∙◌, ap, arith}
use Rattle.sota_bank.specs.Rows.{cap_at}
use Rattle.sota_period.specs.Rows.{asked_nodes}
use Rattle.sota_period.proofs.Filling.{nodes-held}
use Rattle.sota_period.proofs.Feeding.{grown-summers, later-summers}
use Rattle.sota_period.proofs.Extending.{GoesOn, HaveGrown, late, ext-few, ext-limit, ext-read, ext-room, ext-small, have-grown}
use Rattle.sota_period.proofs.rows.extend_row.Given as given
use Rattle.sota_period.proofs.rows.extend_row.Goals as goal
use Rattle.sota_period.proofs.rows.extend_row.Goals.{After-network_laws, Then-at-end, After-append_values}

-- each node of the network has a row
node-rows : (g : given.Over) (c : After-network_laws g) → c.args.block.now.network.now.nodes ≡ length c.args.rows.now
node-rows g c =
    let nodes : c.args.block.now.network.now.nodes ≡ asked_nodes c.args.block.now.ask.now =
    nodes-held c.network_laws.ensures c.args.block.now.ask.now c.requires.block.asked c.args.block.now.network.now c.args.block.now.from (c.requires.block.holds c.args.block.now.from (omega arith) (omega (arith, c.requires.block.some))) in
    omega (arith, nodes, c.requires.rows.count)

-- the row goes on
goes-on : (g : given.Over) (c : Then-at-end g) → GoesOn c.args.block.now c.args.rows.now c.args.node c.known_of-at.result c.min-end.result
goes-on g c = record {
  laws = c.network_laws.ensures;
  is = c.requires.block;
  before = c.requires.rows;
  off = c.requires.off;
  is_node = c.requires.node;
  at_is = c.known_of-at.ensures.value;
  end_is = c.min-end.ensures ∙ ap (λ (n : ℕ). min n (c.args.block.now.from + c.args.block.now.count)) (c.cap-room.ensures.cap ∙ ap (λ (n : ℕ). cap_at c.args.rows.now (n - 1)) c.get.ensures);
  less = c.if-at-end.true;
}

-- and it went on
grown : (g : given.Over) (c : After-append_values g) → GoesOn c.args.block.now c.args.rows.now c.args.node c.known_of-at.result c.min-end.result
    → HaveGrown c.args.block.now.ask.now c.args.block.now.from (c.args.block.now.from + c.args.block.now.count) c.args.node c.args.rows.now c.append_values.new.rows
grown g c on = have-grown on c.append_values.new.part.grains c.append_values.ensures.grains c.append_values.ensures.values c.append_values.new.rows c.append_values.ensures.rows

pub known_of-at-requires : goal.known_of-at-requires
known_of-at-requires g c = (c.requires.node.0, omega (arith, node-rows g (goal.at.known_of-at-requires g c).After-network_laws, c.requires.node.1))

pub cap-room-requires : goal.cap-room-requires
cap-room-requires g c = omega (arith, node-rows g (goal.at.cap-room-requires g c).After-network_laws, c.get.ensures, c.requires.node.0, c.requires.node.1)

pub append_values-requires-clause-rows : goal.append_values-requires-clause-rows
append_values-requires-clause-rows g c = omega (arith, node-rows g (goal.at.append_values-requires-clause-rows g c).After-network_laws)

pub append_values-requires-clause-limit : goal.append_values-requires-clause-limit
append_values-requires-clause-limit g c = ext-limit (goes-on g (goal.at.append_values-requires-clause-limit g c).Then-at-end)

pub append_values-requires-clause-room : goal.append_values-requires-clause-room
append_values-requires-clause-room g c = ext-room (goes-on g (goal.at.append_values-requires-clause-room g c).Then-at-end)

pub append_values-requires-clause-count : goal.append_values-requires-clause-count
append_values-requires-clause-count g c = ext-few (goes-on g (goal.at.append_values-requires-clause-count g c).Then-at-end)

pub append_values-requires-clause-summers : goal.append_values-requires-clause-summers
append_values-requires-clause-summers g c =
    let on = goes-on g (goal.at.append_values-requires-clause-summers g c).Then-at-end in
    later-summers c.known_of-at.result (late on) c.requires.summers

pub append_values-requires-clause-read : goal.append_values-requires-clause-read
append_values-requires-clause-read g c = ext-read (goes-on g (goal.at.append_values-requires-clause-read g c).Then-at-end)

pub append_values-requires-clause-small : goal.append_values-requires-clause-small
append_values-requires-clause-small g c = ext-small (goes-on g (goal.at.append_values-requires-clause-small g c).Then-at-end)

pub returns-then-at-end-clause-rows : goal.returns-then-at-end-clause-rows
returns-then-at-end-clause-rows g c =
    let at = goal.at.returns-then-at-end-clause-rows g c in
    (grown g at.After-append_values (goes-on g at.Then-at-end)).rows

pub returns-then-at-end-clause-longer : goal.returns-then-at-end-clause-longer
returns-then-at-end-clause-longer g c =
    let at = goal.at.returns-then-at-end-clause-longer g c in
    (grown g at.After-append_values (goes-on g at.Then-at-end)).longer

pub returns-then-at-end-clause-reach : goal.returns-then-at-end-clause-reach
returns-then-at-end-clause-reach g c =
    let at = goal.at.returns-then-at-end-clause-reach g c in
    (grown g at.After-append_values (goes-on g at.Then-at-end)).reach

pub returns-then-at-end-clause-summers : goal.returns-then-at-end-clause-summers
returns-then-at-end-clause-summers g c =
    let at = goal.at.returns-then-at-end-clause-summers g c in
    let longer = (grown g at.After-append_values (goes-on g at.Then-at-end)).longer in
    grown-summers c.append_values.new.rows longer (c.append_values.ensures.summers c.args.block.now.from c.requires.summers)
