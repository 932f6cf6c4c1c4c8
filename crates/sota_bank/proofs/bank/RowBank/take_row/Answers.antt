use Rattle.std.proofs.Common.{◌≤◌, take, drop, arith}
use Rattle.sota_bank.specs.Rows.{list_at, cap_at}
use Rattle.sota_bank.proofs.Changes.{take_in, empty_out, lies_at, run_long, length_is}
use Rattle.sota_bank.proofs.bank.RowBank.take_row.Goals as goal

pub invariant_of-self : goal.invariant_of-self
invariant_of-self g c =
    let x = c.index-from.result.now in let room : x.len ≤ cap_at c.args.self.now c.args.row = omega (arith, c.requires.room, length_is c.other.inside.chunks.items c.other.inside.region c.other.invariant c.args.other.now c.other.view_is c.args.row c.requires.rows.1 c.index-from.result.now c.index-from.ensures) in
    rw c.move_run.ensures.other (take_in c.self.inside.chunks.items c.self.inside.region c.self.invariant c.args.self.now c.self.view_is c.args.row c.requires.rows.0 c.index-to.result.now c.index-to.ensures x.len (take x.len (drop x.start c.other.inside.region)) (list_at c.args.other.now c.args.row) (run_long c.other.inside.chunks.items c.other.inside.region c.other.invariant c.args.other.now c.other.view_is c.args.row c.requires.rows.1 c.index-from.result.now c.index-from.ensures) (lies_at c.other.inside.chunks.items c.other.inside.region c.other.invariant c.args.other.now c.other.view_is c.args.row c.requires.rows.1 c.index-from.result.now c.index-from.ensures) room).0

pub invariant_of-other : goal.invariant_of-other
invariant_of-other g c = rw c.move_run.ensures.emptied (empty_out c.other.inside.chunks.items c.other.inside.region c.other.invariant c.args.other.now c.other.view_is c.args.row c.requires.rows.1 c.index-from.result.now c.index-from.ensures).0

pub returns-clause-here : goal.returns-clause-here
returns-clause-here g c =
    let x = c.index-from.result.now in let room : x.len ≤ cap_at c.args.self.now c.args.row = omega (arith, c.requires.room, length_is c.other.inside.chunks.items c.other.inside.region c.other.invariant c.args.other.now c.other.view_is c.args.row c.requires.rows.1 c.index-from.result.now c.index-from.ensures) in
    rw c.move_run.ensures.other (take_in c.self.inside.chunks.items c.self.inside.region c.self.invariant c.args.self.now c.self.view_is c.args.row c.requires.rows.0 c.index-to.result.now c.index-to.ensures x.len (take x.len (drop x.start c.other.inside.region)) (list_at c.args.other.now c.args.row) (run_long c.other.inside.chunks.items c.other.inside.region c.other.invariant c.args.other.now c.other.view_is c.args.row c.requires.rows.1 c.index-from.result.now c.index-from.ensures) (lies_at c.other.inside.chunks.items c.other.inside.region c.other.invariant c.args.other.now c.other.view_is c.args.row c.requires.rows.1 c.index-from.result.now c.index-from.ensures) room).1

pub returns-clause-there : goal.returns-clause-there
returns-clause-there g c = rw c.move_run.ensures.emptied (empty_out c.other.inside.chunks.items c.other.inside.region c.other.invariant c.args.other.now c.other.view_is c.args.row c.requires.rows.1 c.index-from.result.now c.index-from.ensures).1
