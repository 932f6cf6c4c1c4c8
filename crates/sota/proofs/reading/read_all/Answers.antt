use Rattle.std.proofs.Common.{rules, ◌≡◌, ◌+◌, ◌-◌, ◌≤◌, length, take, drop, ap, ◌∙◌, arith, OnOk}
use Rattle.std.specs.Result.{is_ok}
use Rattle.std.proofs.lemmas.List.{with_items_is, places}
use Rattle.sota.proofs.Given.{consumes_more, resized_front}
use Rattle.sota.proofs.reading.read_all.Goals as goal

pub loop-done-preserved : goal.loop-done-preserved
loop-done-preserved g c = record {
  most = search rules;
  within = search (rules, places);
  ends = search (rules, places);
  read = rw (with_items_is c.resize.new.self c.read_at.new.bytes (search (rules, places)))
      (consumes_more _ _ _ c.loop-done.bytes.items c.read_at.new.bytes c.loop-done.done c.in-Ok.count c.loop-done.invariant.read (c.in-Ok.ensures.front ∙ ap (take c.loop-done.done) c.deref_mut.ensures.value ∙ resized_front (is_ok c.resize.result)
      c.loop-done.bytes.items _ _ c.loop-done.done (c.loop-done.done + c.min.result) (omega arith) (search rules) c.resize.ensures.items) c.in-Ok.ensures.read);
}
