use Rattle.std.proofs.Common.{◌≡◌, ◌∙◌, ℕ, suc, ◌+◌, ◌-◌, Some, length, ap, sym, refl, arith}
use Rattle.std.proofs.lemmas.Result.{err_from_is_err_and}
use Rattle.std.proofs.lemmas.List.FromFn.{length-map-range_with_len, map-range_with_len_more}
use Rattle.sota_polfile.specs.declared.row.PolicyRow.{PolicyRow}
use Rattle.sota_polfile.specs.Places.{row_head_at, policy_row_at, start, node_before}
use Rattle.sota_polfile.specs.Words.{is_shortage}
use Rattle.sota_polfile.specs.Faults.{row_fault}
use Rattle.sota_polfile.proofs.FileFaults.{among_passed, among_found, among_none}
use Rattle.sota_polfile.proofs.Rows.{passes, start_after, node_before_after}
use Rattle.sota_polfile.proofs.Replies.{fault_or_ok, fault_or_err, unless_more}
use Rattle.sota_polfile.proofs.reading.read_rows.Goals as goal

pub loop-k-init : goal.loop-k-init
unfolding start node_before
loop-k-init c =
    let all : c.args.count - 0 ≡ c.args.count = omega arith in
    record { at = refl; within = c.requires.whole; rows = c.new-rows.ensures.items; before = refl; so_far = rw all refl }

pub returns-in_err-row-clause-fault : goal.returns-in_err-row-clause-fault
returns-in_err-row-clause-fault c =
    let bytes = c.args.bytes.now in
    let k = c.loop-k.k in
    let invariant = c.loop-k.invariant in
    let p = err_from_is_err_and c.from_residual.result c.from_residual.ensures.1 in
    let left : c.args.count - k ≡ suc (c.args.count - (k + 1)) = omega arith in
    let given = rw (c.requires.head, invariant.at, invariant.before) at c.in_err-row.ensures in
    rw (p.1, p.2) (unless_more (is_shortage c.in_err-row.field-0.0) (λ refusal. sym invariant.so_far ∙ rw left (among_found (row_fault bytes) k (c.args.count - (k + 1)) c.in_err-row.field-0.0 (fault_or_err (row_fault bytes k) (policy_row_at bytes (start bytes k)) c.in_err-row.field-0.0 refusal))) given)

pub loop-k-preserved : goal.loop-k-preserved
loop-k-preserved c =
    let bytes = c.args.bytes.now in
    let k = c.loop-k.k in
    let invariant = c.loop-k.invariant in
    let row = c.in_ok-row.row in
    let given = rw (c.requires.head, invariant.at, invariant.before) at c.in_ok-row.ensures in
    let read = fault_or_ok (row_fault bytes k) (policy_row_at bytes (start bytes k)) row given in
    let head = row_head_at bytes (start bytes k) in
    let pass = passes bytes _ (start bytes k) (node_before bytes k) (k + 1) read.0 in
    let node : head.node ≡ row.node = ap (λ (r : PolicyRow). r.node) read.1 in
    let count : length row.entries ≡ head.count = ap (λ (r : PolicyRow). length r.entries) (sym read.1) ∙ length-map-range_with_len _ 0 head.count in
    let next = start_after bytes k in
    let more = map-range_with_len_more (λ j. policy_row_at bytes (start bytes j)) 0 k k (omega arith) in
    let left : c.args.count - k ≡ suc (c.args.count - (k + 1)) = omega arith in
    record {
      at = omega (arith, next, count, c.len.ensures.value, invariant.at);
      within = omega (arith, pass.within, count, c.len.ensures.value, invariant.at);
      rows = rw (c.in_ok-push.ensures.items, invariant.rows, ← read.1) (sym more);
      before = sym (node_before_after bytes k ∙ ap (λ (n : ℕ). Some n) node);
      so_far = sym (among_passed (row_fault bytes) k (c.args.count - (k + 1)) read.0) ∙ rw left at invariant.so_far;
    }

pub returns-clause-none : goal.returns-clause-none
returns-clause-none c =
    let bytes = c.args.bytes.now in
    let nothing : c.args.count - c.loop-k.k ≡ 0 = omega arith in
    sym c.loop-k.invariant.so_far ∙ rw nothing (among_none (row_fault bytes) c.loop-k.k)
