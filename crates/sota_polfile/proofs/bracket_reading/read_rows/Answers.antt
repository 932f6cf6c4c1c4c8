use Rattle.std.proofs.Common.{◌≡◌, ◌∙◌, suc, ◌+◌, ◌-◌, length, ap, sym, refl, arith}
use Rattle.std.proofs.lemmas.Result.{err_from_is_err_and}
use Rattle.std.proofs.lemmas.List.FromFn.{length-map-range_with_len, map-range_with_len_more}
use Rattle.std.specs.Int.{w32}
use Rattle.sota_polfile.specs.declared.bracket_row.BracketRow.{BracketRow}
use Rattle.sota_polfile.specs.Places.{number_at, head_at}
use Rattle.sota_polfile.specs.BracketFile.{bracket_row_at, bracket_start, bracket_row_fault}
use Rattle.sota_polfile.specs.Words.{is_shortage}
use Rattle.sota_polfile.proofs.FileFaults.{among_passed, among_found, among_none}
use Rattle.sota_polfile.proofs.BracketRows.{passes, start_after}
use Rattle.sota_polfile.proofs.Replies.{fault_or_ok, fault_or_err, unless_more}
use Rattle.sota_polfile.proofs.bracket_reading.read_rows.Goals as goal

pub loop-k-init : goal.loop-k-init
unfolding bracket_start
loop-k-init c =
    let all : c.args.head.now.nodes - 0 ≡ c.args.head.now.nodes = omega arith in
    record { at = refl; within = c.requires.whole; rows = c.new-rows.ensures.items; so_far = rw all refl }

pub returns-in_err-row-clause-fault : goal.returns-in_err-row-clause-fault
returns-in_err-row-clause-fault c =
    let bytes = c.args.bytes.now in
    let k = c.loop-k.k in
    let nodes = c.args.head.now.nodes in
    let invariant = c.loop-k.invariant in
    let p = err_from_is_err_and c.from_residual.result c.from_residual.ensures.1 in
    let left : nodes - k ≡ suc (nodes - (k + 1)) = omega arith in
    let given = rw (c.requires.head, invariant.at) at c.in_err-row.ensures in
    rw (p.1, p.2) (unless_more (is_shortage c.in_err-row.field-0.0) (λ refusal. sym invariant.so_far ∙ rw left (among_found (bracket_row_fault bytes) k (nodes - (k + 1)) c.in_err-row.field-0.0 (fault_or_err (bracket_row_fault bytes k) (bracket_row_at bytes (bracket_start bytes k)) c.in_err-row.field-0.0 refusal))) given)

pub loop-k-preserved : goal.loop-k-preserved
loop-k-preserved c =
    let bytes = c.args.bytes.now in
    let k = c.loop-k.k in
    let nodes = c.args.head.now.nodes in
    let invariant = c.loop-k.invariant in
    let row = c.in_ok-row.row in
    let given = rw (c.requires.head, invariant.at) at c.in_ok-row.ensures in
    let read = fault_or_ok (bracket_row_fault bytes k) (bracket_row_at bytes (bracket_start bytes k)) row given in
    let pass = passes bytes (head_at bytes) (k + 1) (bracket_start bytes k) read.0 in
    let count : length row.entries ≡ number_at w32 bytes (bracket_start bytes k + 4) = ap (λ (r : BracketRow). length r.entries) (sym read.1) ∙ length-map-range_with_len _ 0 (number_at w32 bytes (bracket_start bytes k + 4)) in
    let next = start_after bytes k in
    let more = map-range_with_len_more (λ j. bracket_row_at bytes (bracket_start bytes j)) 0 k k (omega arith) in
    let left : nodes - k ≡ suc (nodes - (k + 1)) = omega arith in
    record {
      at = omega (arith, next, count, c.len.ensures.value, invariant.at);
      within = omega (arith, pass.within, count, c.len.ensures.value, invariant.at);
      rows = rw (c.in_ok-push.ensures.items, invariant.rows, ← read.1) (sym more);
      so_far = sym (among_passed (bracket_row_fault bytes) k (nodes - (k + 1)) read.0) ∙ rw left at invariant.so_far;
    }

pub returns-clause-none : goal.returns-clause-none
returns-clause-none c =
    let bytes = c.args.bytes.now in
    let nothing : c.args.head.now.nodes - c.loop-k.k ≡ 0 = omega arith in
    sym c.loop-k.invariant.so_far ∙ rw nothing (among_none (bracket_row_fault bytes) c.loop-k.k)
