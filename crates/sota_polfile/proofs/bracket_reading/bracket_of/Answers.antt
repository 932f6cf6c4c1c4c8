use Rattle.std.proofs.Common.{◌≡◌, ℕ, ◌<◌, Ok, get_or, arith}
use Rattle.sota_polfile.specs.Bracket.{IsBracket}
use Rattle.sota_polfile.specs.Places.{head_at}
use Rattle.sota_polfile.specs.BracketFile.{bracket_magic, bracket_start, bracket_of}
use Rattle.sota_polfile.proofs.BracketFiles.{found_table}
use Rattle.sota_polfile.proofs.Replies.{head_refused, rows_refused, end_refused}
use Rattle.sota_polfile.proofs.bracket_reading.bracket_of.Goals as goal
use Rattle.sota_polfile.proofs.bracket_reading.bracket_of.Goals.{Else-end-bytes}

pub returns-in_err-head : goal.returns-in_err-head
unfolding bracket_of
returns-in_err-head c = head_refused bracket_magic 28 _ _ c.args.bytes.now _ _ _ c.from_residual.ensures.1 c.in_err-head.ensures.fault

pub returns-in_err-rows : goal.returns-in_err-rows
unfolding bracket_of
returns-in_err-rows c =
    let given = rw c.in_ok-head.ensures.head at c.in_err-rows.ensures.fault in
    rows_refused bracket_magic 28 _ _ c.args.bytes.now _ _ _ c.from_residual-in_err-rows.ensures.1 c.in_ok-head.ensures.none given

pub returns-then-end-bytes : goal.returns-then-end-bytes
unfolding bracket_of
returns-then-end-bytes c =
    let bytes = c.args.bytes.now in
    let none = rw c.in_ok-head.ensures.head at c.in_ok-rows.ensures.none in
    let end : c.in_ok-rows.end ≡ bracket_start bytes (head_at bytes).nodes = rw c.in_ok-head.ensures.head at c.in_ok-rows.ensures.end.0 in
    rw end (end_refused bracket_magic 28 _ (bracket_start bytes (head_at bytes).nodes) bytes _ c.in_ok-head.ensures.none none (omega arith))

-- the head and the rows that were read are a table, and the bytes say it
said : (c : Else-end-bytes) → IsBracket (record { head = c.in_ok-head.head; rows = c.in_ok-rows.rows.items }) × (bracket_of c.args.bytes.now ≡ Ok (record { head = c.in_ok-head.head; rows = c.in_ok-rows.rows.items }))
said c =
    let bytes = c.args.bytes.now in
    let fits : (i : ℕ) → get_or bytes i 0 < 256 = λ i. omega (arith, c.type_inv.bytes i) in
    found_table bytes c.in_ok-head.head c.in_ok-rows.rows.items c.in_ok-rows.end fits (record {
      head_none = c.in_ok-head.ensures.none;
      head_is = c.in_ok-head.ensures.head;
      rows_are = c.in_ok-rows.ensures.rows;
      none = c.in_ok-rows.ensures.none;
      end_is = c.in_ok-rows.ensures.end.0;
      ends = c.if-end-bytes.false;
    })

pub invariant_of-result : goal.invariant_of-result
invariant_of-result c = (said c).0

pub returns : goal.returns
returns c = (said c).1
