use Rattle.std.proofs.Common.{◌≡◌, ◌∙◌, ◌++◌, [], length, slice_range, length-append, take, drop, Some, Ok, ap, sym, subst, arith}
use Rattle.sota_units.specs.Memory.{or_fault}
use Rattle.sota_text.specs.Spans.{AreWithin, AreInOrderFrom}
use Rattle.sota_report.proofs.FieldByField.{begins, steps, finished, from_start, none_of_none, nothing_left, end_of, length_of}
use Rattle.sota_report.specs.Resolved.{resolved}
use Rattle.sota_report.specs.declared.fault.ResolveFault.TheVariants.{Place}
use Rattle.sota_report.proofs.resolving.resolve.Goals as goal
use Rattle.sota_report.proofs.resolving.resolve.Goals.{else-loop-left-test, then-loop-left-test+in_default-next}

pub loop-left-init : goal.loop-left-init
loop-left-init c =
    let first = c.in-Some.ensures.steps in
    record {
      text = begins c.args.names.now c.args.line.now c.new-out.result c.new-fields.result c.next.new.self c.in-Some.word c.node_fields-left.result c.new-out.ensures c.new-fields.ensures.spans first c.node_fields-left.ensures.meaning;
      within = (subst (AreWithin c.args.line.now) first c.new-fields.ensures.within).1;
      order = from_start c.next.new.self c.in-Some.word.to (subst (AreInOrderFrom 0) first c.new-fields.ensures.order).1;
      inside = omega arith;
      length = omega (arith, ap length c.new-out.ensures, c.node_fields-left.ensures.few);
    }

pub loop-left-preserved : goal.loop-left-preserved
loop-left-preserved c =
    let first = c.in-Some-next.ensures.steps in
    let within = subst (AreWithin c.args.line.now) first c.loop-left.invariant.within in
    let order = subst (AreInOrderFrom c.loop-left.done) first c.loop-left.invariant.order in
    let line = c.args.line.now in
    let field = c.in-Some-next.field in
    let copied = ap length c.in_ok-bytes-2.ensures.ok ∙ length-append c.loop-left.out (slice_range line c.loop-left.done field.from) in
    let before = length_of line c.loop-left.done field.from order.0 (omega (arith, within.0)) in
    let itself = length_of line field.from field.to within.0.0 within.0.1 in
    record {
      text = steps c.args.names.now c.args.line.now c.loop-left.out c.loop-left.done c.loop-left.left c.in-Some-next.field c.loop-left.fields c.next-in-loop-left.new.self c.loop-left.invariant.text c.loop-left-test.true first c.in_ok-bytes-2.ensures.ok c.in_ok-write_field.ensures.meaning;
      within = within.1;
      order = order.1;
      inside = within.0.1;
      length = omega (arith, c.loop-left.invariant.length, c.loop-left-test.true, c.in_ok-write_field.ensures.length, copied, before, itself, order.0, within.0.0);
    }

pub returns-clause-length : goal.returns-clause-length
returns-clause-length c =
    let line = c.args.line.now in
    let copied = ap length c.in_ok-bytes-3.ensures.ok ∙ length-append c.loop-left.out (slice_range line c.loop-left.done (length line)) in
    let rest = length_of line c.loop-left.done (length line) c.loop-left.invariant.inside (omega arith) in
    omega (arith, c.loop-left.invariant.length, ap length c.into_vec-2.ensures, copied, rest, c.loop-left.invariant.inside)

pub returns-clause-meaning : goal.returns-clause-meaning
returns-clause-meaning c =
    let spans = take c.loop-left.left c.loop-left.fields in
    let none : spans ≡ [] = elim c.loop-left-test.branch [
      | else-loop-left-test w ↦ none_of_none c.loop-left.left c.loop-left.fields w.loop-left-test.false
      | then-loop-left-test+in_default-next w ↦ nothing_left c.loop-left.left c.loop-left.fields w.in_default-next.ensures.steps.0
    ] in
    let whole : resolved c.args.names.now c.args.line.now ≡ Some (c.loop-left.out ++ drop c.loop-left.done c.args.line.now) =
    finished c.args.names.now c.args.line.now c.loop-left.out c.loop-left.done spans c.loop-left.invariant.text none in
    ap (or_fault Place) whole ∙ ap Ok (ap (λ rest. c.loop-left.out ++ rest) (sym (end_of c.args.line.now c.loop-left.done)) ∙ sym c.in_ok-bytes-3.ensures.ok ∙ sym c.into_vec-2.ensures)
