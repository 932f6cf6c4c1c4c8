use Rattle.std.proofs.Common.{◌≡◌, ℕ, ◌+◌, ◌-◌, ◌/◌, Some, length, ap, sym, arith}
use Rattle.sota_polfile.specs.BracketFile.{part_at, part_fault, bracket_row_at}
use Rattle.sota_polfile.specs.Words.{is_shortage}
use Rattle.sota_polfile.proofs.FileFaults.{sized_short, sized_bad, sized_cut}
use Rattle.sota_polfile.proofs.BracketRows.{no_fault}
use Rattle.sota_polfile.proofs.Replies.{unless_from, refused, faultless}
use Rattle.sota_polfile.proofs.bracket_reading.read_row.Goals as goal

pub returns-then-left-lt-PART : goal.returns-then-left-lt-PART
returns-then-left-lt-PART c =
    refused _ (bracket_row_at c.args.bytes.now c.args.at) _ (sized_short (length c.args.bytes.now) c.args.at 8 _ 20 _ (omega arith))

pub returns-in-Some : goal.returns-in-Some
returns-in-Some c =
    let found : part_fault c.args.head.now (part_at c.args.bytes.now c.args.node c.args.at) ≡ Some c.in-Some.fault = rw c.part_at-part.ensures at (sym c.in-Some.ensures) in
    unless_from (is_shortage c.in-Some.fault) (refused _ (bracket_row_at c.args.bytes.now c.args.at) _ (sized_bad (length c.args.bytes.now) c.args.at 8 _ 20 _ c.in-Some.fault found (omega arith)))

pub returns-then-whole-part : goal.returns-then-whole-part
returns-then-whole-part c =
    let bytes = c.args.bytes.now in
    let at = c.args.at in
    let place : (length bytes - (at + 8)) / 20 ≡ (length bytes - at - 8) / 20 = ap (λ (n : ℕ). n / 20) (omega arith) in
    let good = rw c.part_at-part.ensures at (sym c.in_default.ensures) in
    let count = rw c.part_at-part.ensures at c.if-whole-part.true in
    let cut = sized_cut (length bytes) at 8 (part_fault c.args.head.now (part_at bytes c.args.node at)) 20 (part_at bytes c.args.node at).count good (omega arith) (omega (arith, count)) in
    refused _ (bracket_row_at bytes at) _ (rw place at cut)

pub returns : goal.returns
returns c =
    let bytes = c.args.bytes.now in
    let part = c.part_at-part.result in
    let none = no_fault bytes c.args.head.now c.args.node c.args.at part (sym c.part_at-part.ensures) (sym c.in_default.ensures) (omega arith) in
    rw (c.new.ensures, c.in_ok-entries.ensures, c.part_at-part.ensures) (faultless _ (bracket_row_at bytes c.args.at) none)
