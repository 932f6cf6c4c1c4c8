use Rattle.std.proofs.Common.{ℕ, ◌≡◌, ◌∙◌, ap, refl, sym, subst, arith, length, List}
use Rattle.sota_network.specs.Numbers.{listed}
use Rattle.sota_tables.specs.Views.{TablesView, HasRoom, row_needed}
use Rattle.sota_tables.proofs.Viewing.{caps-long, rows-fit, room-made, view-regrown}
use Rattle.sota_tables.proofs.tables.Tables.regrow.Goals as goal
use Rattle.sota_tables.proofs.tables.Tables.regrow.Goals.{In_ok-caps}

-- the tables as contracts see them
abbrev seen : In_ok-caps → TablesView
seen c = record { dest = c.self.inside.dest; fronts = c.self.inside.fronts.items; bases = c.self.inside.bases.items; lower = c.self.inside.lower; upper = c.self.inside.upper; choices = c.self.inside.choices }

caps-are : (c : In_ok-caps) → c.in_ok-caps.caps.items ≡ listed (row_needed (seen c) c.args.needs.now) (length (seen c).fronts)
caps-are c = subst (λ (x : TablesView). c.in_ok-caps.caps.items ≡ listed (row_needed x c.args.needs.now) (length x.fronts)) (sym c.self.view_is) c.in_ok-caps.ensures

pub grow-requires-clause-rows : goal.grow-requires-clause-rows
grow-requires-clause-rows c =
    let all = (goal.at.grow-requires-clause-rows c).In_ok-caps in
    let v : TablesView = seen all in
    ap (λ (xs : List ℕ). length xs) c.deref.ensures.value ∙ caps-long c.lists_by_number.ensures v c.self.invariant c.args.needs.now c.in_ok-caps.caps.items (caps-are all) ∙ sym c.self.invariant.lower

pub grow-requires-clause-room : goal.grow-requires-clause-room
grow-requires-clause-room c = λ row less.
    let all = (goal.at.grow-requires-clause-room c).In_ok-caps in
    let v : TablesView = seen all in
    rw c.deref.ensures.value (rows-fit c.lists_by_number.ensures v c.self.invariant c.args.needs.now c.in_ok-caps.caps.items (caps-are all) row (omega (arith, less, c.self.invariant.lower))).0

pub grow-requires-2-clause-room : goal.grow-requires-2-clause-room
grow-requires-2-clause-room c = λ row less.
    let all = (goal.at.grow-requires-2-clause-room c).In_ok-caps in
    let v : TablesView = seen all in
    rw c.deref-2.ensures.value (rows-fit c.lists_by_number.ensures v c.self.invariant c.args.needs.now c.in_ok-caps.caps.items (caps-are all) row (omega (arith, less, c.self.invariant.upper))).1

pub grow-requires-3-clause-room : goal.grow-requires-3-clause-room
grow-requires-3-clause-room c = λ row less.
    let all = (goal.at.grow-requires-3-clause-room c).In_ok-caps in
    let v : TablesView = seen all in
    rw c.deref-3.ensures.value (rows-fit c.lists_by_number.ensures v c.self.invariant c.args.needs.now c.in_ok-caps.caps.items (caps-are all) row (omega (arith, less, c.self.invariant.choices))).2

pub invariant_of-self : goal.invariant_of-self
invariant_of-self c =
    view-regrown (seen (goal.at.invariant_of-self c).In_ok-caps) c.self.invariant c.grow.new.bank c.self.inside.upper c.self.inside.choices c.grow.ensures.lists refl refl

pub invariant_of-self-in_err-grow-2 : goal.invariant_of-self-in_err-grow-2
invariant_of-self-in_err-grow-2 c =
    view-regrown (seen (goal.at.invariant_of-self-in_err-grow-2 c).In_ok-caps) c.self.invariant c.grow.new.bank c.grow-2.new.bank c.self.inside.choices c.grow.ensures.lists c.grow-2.ensures.lists refl

pub invariant_of-self-in_err-grow-3 : goal.invariant_of-self-in_err-grow-3
invariant_of-self-in_err-grow-3 c =
    view-regrown (seen (goal.at.invariant_of-self-in_err-grow-3 c).In_ok-caps) c.self.invariant c.grow.new.bank c.grow-2.new.bank c.grow-3.new.bank c.grow.ensures.lists c.grow-2.ensures.lists c.grow-3.ensures.lists

pub invariant_of-self-2 : goal.invariant_of-self-2
invariant_of-self-2 c =
    view-regrown (seen (goal.at.invariant_of-self-2 c).In_ok-caps) c.self.invariant c.grow.new.bank c.grow-2.new.bank c.grow-3.new.bank c.grow.ensures.lists c.grow-2.ensures.lists c.grow-3.ensures.lists

pub returns-clause-room : goal.returns-clause-room
returns-clause-room c =
    let all = (goal.at.returns-clause-room c).In_ok-caps in
    let v : TablesView = seen all in
    rw (← c.self.view_is)
    (λ i node.
    room-made c.lists_by_number.ensures v c.self.invariant c.args.needs.now c.in_ok-caps.caps.items (caps-are all) c.grow.new.bank c.grow-2.new.bank c.grow-3.new.bank c.grow.ensures.lists c.grow-2.ensures.lists c.grow-3.ensures.lists
    (subst (λ (xs : List ℕ). HasRoom c.grow.new.bank xs) c.deref.ensures.value c.in_ok-grow.ensures.room)
    (subst (λ (xs : List ℕ). HasRoom c.grow-2.new.bank xs) c.deref-2.ensures.value c.in_ok-grow-2.ensures.room)
    (subst (λ (xs : List ℕ). HasRoom c.grow-3.new.bank xs) c.deref-3.ensures.value c.in_ok-grow-3.ensures.room) i node.0 node.1)
