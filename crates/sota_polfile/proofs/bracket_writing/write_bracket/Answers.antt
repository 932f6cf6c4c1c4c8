use Rattle.std.proofs.Common.{◌≡◌, ◌∙◌, ◌++◌, List, length, ap}
use Rattle.std.proofs.lemmas.List.{take_all}
use Rattle.std.specs.List.{flat_map}
use Rattle.sota_polfile.specs.declared.bracket_row.BracketRow.{BracketRow}
use Rattle.sota_polfile.specs.BracketFile.{spelled_bracket_head, spelled_bracket_row, bracket_spelling, any_of}
use Rattle.sota_polfile.proofs.BracketFiles.{length-spelling}
use Rattle.sota_polfile.proofs.BothVersions.{two_again}
use Rattle.sota_polfile.proofs.bracket_writing.write_bracket.Goals as goal
use Rattle.sota_polfile.proofs.bracket_writing.write_bracket.Goals.{After-loop-row}

spelled : (c : After-loop-row) → c.loop-row.out.items ≡ bracket_spelling c.args.table.now
unfolding bracket_spelling
spelled c =
    let table = c.args.table.now in
    let rows = rw c.rows-rows.ensures.value at c.loop-row.invariant in
    let all = rw c.rows-rows.ensures.value at c.loop-row-test.false in
    rows ∙ ap (λ (done : List BracketRow). spelled_bracket_head table.head ++ flat_map spelled_bracket_row done) (take_all c.loop-row.row-index table.rows all)

pub returns-clause-spelled : goal.returns-clause-spelled
returns-clause-spelled c = spelled c

pub returns-clause-read : goal.returns-clause-read
returns-clause-read c = ap any_of (spelled c) ∙ two_again c.args.table.now c.rows-rows.ensures.valid

pub returns-clause-len : goal.returns-clause-len
returns-clause-len c = ap length (spelled c) ∙ length-spelling c.args.table.now
