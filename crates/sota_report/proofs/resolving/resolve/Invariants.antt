use Rattle.std.proofs.Common.{◌≡◌, ◌+◌, ◌*◌, ◌++◌, ◌≤◌, length, take, option_map}
use Rattle.sota_text.specs.Spans.{AreWithin, AreInOrderFrom}
use Rattle.sota_report.specs.Resolved.{resolved, resolved_from}
use Rattle.sota_report.proofs.resolving.resolve.Given as goal

-- what is written and the bytes that are left make the resolved line
abbrev pub invariant-loop-left : goal.invariant-loop-left
invariant-loop-left l = record {
  text : option_map (λ rest. l.out ++ rest) (resolved_from l.names l.line l.done (take l.left l.fields)) ≡ resolved l.names l.line;
  within : AreWithin l.line l.fields;
  order : AreInOrderFrom l.done l.fields;
  inside : l.done ≤ length l.line;
  length : length l.out + 10 * l.left ≤ l.done + 20;
}

abbrev pub decreases-loop-left : goal.decreases-loop-left
decreases-loop-left l = l.left
