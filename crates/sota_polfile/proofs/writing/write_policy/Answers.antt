use Rattle.std.proofs.Common.{◌≡◌, ◌∙◌, ◌++◌, List, length, ap}
use Rattle.std.proofs.lemmas.List.{take_all}
use Rattle.std.specs.List.{flat_map}
use Rattle.sota_polfile.specs.declared.row.PolicyRow.{PolicyRow}
use Rattle.sota_polfile.specs.Spelling.{spelled_head, spelled_row, spelling}
use Rattle.sota_polfile.specs.Faults.{policy_of}
use Rattle.sota_polfile.proofs.Files.{read_again, length-spelling}
use Rattle.sota_polfile.proofs.writing.write_policy.Goals as goal
use Rattle.sota_polfile.proofs.writing.write_policy.Goals.{After-loop-row}

spelled : (c : After-loop-row) → c.loop-row.out.items ≡ spelling c.args.table.now
unfolding spelling
spelled c =
    let table = c.args.table.now in
    let rows = rw c.rows-rows.ensures.value at c.loop-row.invariant in
    let all = rw c.rows-rows.ensures.value at c.loop-row-test.false in
    rows ∙ ap (λ (done : List PolicyRow). spelled_head table.head (length table.rows) ++ flat_map spelled_row done) (take_all c.loop-row.row-index table.rows all)

pub returns-clause-spelled : goal.returns-clause-spelled
returns-clause-spelled c = spelled c

pub returns-clause-read : goal.returns-clause-read
returns-clause-read c = ap policy_of (spelled c) ∙ read_again c.args.table.now c.rows-rows.ensures.valid

pub returns-clause-len : goal.returns-clause-len
returns-clause-len c = ap length (spelled c) ∙ length-spelling c.args.table.now
