use Rattle.std.proofs.Common.{◌+◌, ◌≤◌, length, subst, arith}
use Rattle.sota_histcsv.specs.Records.{text_records}
use Rattle.sota_histcsv.specs.Kept.{Tabulates}
use Rattle.sota_histcsv.proofs.Reading.{few}
use Rattle.sota_histcsv.proofs.Keeping.{grown}
use Rattle.sota_histcsv.proofs.Contents.{no_header, no_scale, begun, ended, goes_on}
use Rattle.sota_histcsv.proofs.table.read_table.Goals as goal

pub returns-then-not-branch-clause-holds : goal.returns-then-not-branch-clause-holds
returns-then-not-branch-clause-holds c =
    let takes = c.in_ok-next_record.ensures (text_records c.args.text.now) c.reader_of-reader.ensures in
    no_header _ _ (rw c.if-not-branch.true at takes)

pub returns-in_default-clause-holds : goal.returns-in_default-clause-holds
returns-in_default-clause-holds c =
    let takes = c.in_ok-next_record.ensures (text_records c.args.text.now) c.reader_of-reader.ensures in
    no_scale _ _ _ _ (rw c.if-not-branch.false at takes) c.in_default.ensures

pub loop-number-init : goal.loop-number-init
loop-number-init c =
    let takes = c.in_ok-next_record.ensures (text_records c.args.text.now) c.reader_of-reader.ensures in
    record {
      goes = rw c.new-entries.ensures.items (begun c.args.arcs c.in-Some.scale _ _ _ (rw c.if-not-branch.false at takes) c.in-Some.ensures);
      few = rw c.new-entries.ensures.items (omega arith);
      rise = rw c.new-entries.ensures.items (λ i j d less under. absurd (omega arith));
      below = rw c.new-entries.ensures.items (λ k d under. absurd (omega arith));
    }

pub returns-then-not-branch-2-clause-holds : goal.returns-then-not-branch-2-clause-holds
returns-then-not-branch-2-clause-holds c =
    let goes = c.loop-number.invariant.goes in
    let takes = c.in_ok-next_record-2.ensures goes.left goes.leaves in
    subst (Tabulates c.arrange.result) (ended _ _ _ _ _ _ goes (rw c.if-not-branch-2.true at takes)) c.arrange.ensures.holds

pub returns-in-Err-clause-holds : goal.returns-in-Err-clause-holds
returns-in-Err-clause-holds c =
    let goes = c.loop-number.invariant.goes in
    let takes = c.in_ok-next_record-2.ensures goes.left goes.leaves in
    let on = goes_on _ _ _ _ _ _ _ _ goes (rw c.if-not-branch-2.false at takes) in
    subst (Tabulates c.arrange-in-Err.result) (on.fault c.in-Err.fault c.in-Err.ensures.fault) c.arrange-in-Err.ensures.holds

pub loop-number-preserved : goal.loop-number-preserved
loop-number-preserved c =
    let goes = c.loop-number.invariant.goes in
    let takes = c.in_ok-next_record-2.ensures goes.left goes.leaves in
    let on = goes_on _ _ _ _ _ _ _ _ goes (rw c.if-not-branch-2.false at takes) in
    let more = grown c.loop-number.entries.items c.in-Ok.entry c.loop-number.number c.loop-number.invariant.few c.loop-number.invariant.rise c.loop-number.invariant.below c.in-Ok.ensures.number in
    record {
      goes = rw c.in_ok-keep-in-Ok.ensures (on.more c.in-Ok.entry c.in-Ok.ensures.fault.0 c.in-Ok.ensures.fault.1);
      few = rw c.in_ok-keep-in-Ok.ensures more.few;
      rise = rw c.in_ok-keep-in-Ok.ensures more.rise;
      below = rw c.in_ok-keep-in-Ok.ensures more.below;
    }

pub unreachable-requires : goal.unreachable-requires
unreachable-requires c =
    let last : 4294967295 ≤ c.loop-number.number = c.loop-number-test.false in
    let all : length (text_records c.args.text.now) ≤ length c.args.text.now + 1 = few c.args.text.now in
    omega (arith, c.loop-number.invariant.goes.few, c.requires.size)
