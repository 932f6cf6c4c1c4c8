use Rattle.std.proofs.Common.{◌≡◌, ℕ, ◌+◌, ◌-◌, ◌/◌, Some, length, ap, sym, arith}
use Rattle.sota_polfile.specs.Places.{row_head_at, policy_row_at}
use Rattle.sota_polfile.specs.Words.{is_shortage}
use Rattle.sota_polfile.specs.Faults.{numbers_fault}
use Rattle.sota_polfile.proofs.Rules.{numbers_fit}
use Rattle.sota_polfile.proofs.FileFaults.{sized_short, sized_bad}
use Rattle.sota_polfile.proofs.Rows.{in_entries, no_fault}
use Rattle.sota_polfile.proofs.Replies.{unless_from, refused, faultless}
use Rattle.sota_polfile.proofs.reading.read_row.Goals as goal

pub returns-then-left-lt-ROW_HEAD : goal.returns-then-left-lt-ROW_HEAD
returns-then-left-lt-ROW_HEAD c =
    refused _ (policy_row_at c.args.bytes.now c.args.at) _ (sized_short (length c.args.bytes.now) c.args.at 12 _ 12 _ (omega arith))

pub returns-in-Some : goal.returns-in-Some
returns-in-Some c =
    let found : numbers_fault c.args.head.now c.args.before c.args.number (row_head_at c.args.bytes.now c.args.at) ≡ Some c.in-Some.fault = rw c.row_head_at-row.ensures at (sym c.in-Some.ensures) in
    unless_from (is_shortage c.in-Some.fault) (refused _ (policy_row_at c.args.bytes.now c.args.at) _ (sized_bad (length c.args.bytes.now) c.args.at 12 _ 12 _ c.in-Some.fault found (omega arith)))

pub returns-then-whole-row : goal.returns-then-whole-row
returns-then-whole-row c =
    let bytes = c.args.bytes.now in
    let at = c.args.at in
    let place : (length bytes - (at + 12)) / 12 ≡ (length bytes - at - 12) / 12 = ap (λ (n : ℕ). n / 12) (omega arith) in
    let cut = in_entries bytes c.args.head.now at c.args.before c.args.number c.row_head_at-row.result (sym c.row_head_at-row.ensures) (sym c.in_default.ensures) (omega arith) (omega arith) in
    refused _ (policy_row_at bytes at) _ (rw place at cut)

pub returns : goal.returns
returns c =
    let bytes = c.args.bytes.now in
    let row = c.row_head_at-row.result in
    let fits = numbers_fit c.args.head.now c.args.before c.args.number row (sym c.in_default.ensures) in
    let none = no_fault bytes c.args.head.now c.args.at c.args.before c.args.number row (sym c.row_head_at-row.ensures) fits.0 fits.1 (omega arith) in
    rw (c.new.ensures, c.in_ok-entries.ensures, c.row_head_at-row.ensures) (faultless _ (policy_row_at bytes c.args.at) none)
