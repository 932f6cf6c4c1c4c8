use Rattle.std.proofs.Common.{[], ◌∷◌, length}
use Rattle.sota_polfile.specs.Spelling.{spelled_numbers, spelled_entry, spelled_row}
use Rattle.sota_polfile.proofs.Lists.{joined}
use Rattle.sota_polfile.proofs.writing.put_row.Goals as goal

pub returns : goal.returns
unfolding spelled_row
returns c =
    let row = c.args.row.now in
    let front = rw c.len.ensures.value at c.in_ok-put_numbers.ensures in
    let entries = rw c.as_slice-entry-items.ensures.value at c.loop-entry.invariant in
    let all = rw c.as_slice-entry-items.ensures.value at c.loop-entry-test.false in
    joined spelled_entry c.loop-entry.out.items c.put_numbers.new.out.items c.args.out.now.items (spelled_numbers (row.node ∷ row.first ∷ length row.entries ∷ [])) row.entries c.loop-entry.entry-index entries front all
