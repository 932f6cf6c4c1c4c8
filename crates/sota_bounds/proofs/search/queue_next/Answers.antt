use Rattle.std.proofs.Common.{rules, ℕ, ◌≡◌, ◌≤◌, Option, ◌∷◌, sym, ◌∙◌, ap, arith, heap_items}
use Rattle.std.specs.Option.{option_and_then}
use Rattle.std.proofs.lemmas.List.Elements.{All-cons}
use Rattle.std.proofs.lemmas.List.Sorted.{All-permutation}
use Rattle.sota_network.specs.Network.{IsNode, arc_at}
use Rattle.sota_bounds.specs.Search.{target_of, next_visit}
use Rattle.sota_bounds.specs.declared.search.Visit.{Visit}
use Rattle.sota_bounds.proofs.Joined.{end-valid}
use Rattle.sota_bounds.proofs.Queued.{queued-more, queued-same}
use Rattle.sota_bounds.proofs.search.queue_next.Goals.{in-Some+in_ok-push, in_default}
use Rattle.sota_bounds.proofs.search.queue_next.Goals as goal

pub next_visit-requires-clause-end : goal.next_visit-requires-clause-end
next_visit-requires-clause-end c =
    let node : IsNode c.args.network.now (target_of c.args.direction c.numbered-arc.result.now) = end-valid c.args.network.now c.args.direction c.numbered-arc.result.now c.numbered-arc.ensures.valid in
    (node.0, omega (arith, node.1, c.requires.nodes))

-- what is queued for the number that is looked at
gives : (c : goal.Joined-next_visit) → option_and_then (next_visit c.args.direction c.args.dest c.args.visit.now c.args.times.now) (arc_at c.args.network.now c.number-item.result) ≡ c.next_visit.result
gives c =
    ap (option_and_then (next_visit c.args.direction c.args.dest c.args.visit.now c.args.times.now)) c.numbered-arc.ensures.value ∙ sym c.next_visit.ensures.value

pub loop-number-preserved : goal.loop-number-preserved
loop-number-preserved c =
    let next : ℕ → Option Visit = λ e. option_and_then (next_visit c.args.direction c.args.dest c.args.visit.now c.args.times.now) (arc_at c.args.network.now e) in
    elim c.match-next_visit.branch [
      | in-Some+in_ok-push w ↦ record {
        order = search rules;
        queued = rw w.queue-is
            (queued-more next c.arcs_at-number-items.result.now c.loop-number.number-index c.number-item.result c.loop-number-test.true c.number-item.is (heap_items c.args.queue.now)
            (heap_items c.loop-number.queue) (heap_items w.push.new.self) w.in-Some.next (gives c ∙ w.in-Some.is) c.loop-number.invariant.queued w.in_ok-push.ensures.permutation);
        soon = λ limit h base. rw w.queue-is
            (All-permutation (λ (v : Visit). v.time.0 ≤ limit) (w.in-Some.next ∷ heap_items c.loop-number.queue) (heap_items w.push.new.self) w.in_ok-push.ensures.permutation
            (All-cons (λ (v : Visit). v.time.0 ≤ limit) w.in-Some.next (heap_items c.loop-number.queue) (omega (arith, w.in-Some.ensures.soon, h)) (c.loop-number.invariant.soon limit h base)));
      }
      | in_default w ↦ record {
        order = search rules;
        queued = rw w.queue-is
            (queued-same next c.arcs_at-number-items.result.now c.loop-number.number-index c.number-item.result c.loop-number-test.true c.number-item.is (heap_items c.args.queue.now)
            (heap_items c.loop-number.queue) (gives c ∙ w.in_default.is) c.loop-number.invariant.queued);
        soon = search rules;
      }
    ]
