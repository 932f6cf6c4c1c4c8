use Rattle.std.proofs.Common.{◌≡◌, ◌+◌, ◌∙◌, refl, arith, rules, true}
use Rattle.std.specs.Result.{is_ok}
use Rattle.std.proofs.lemmas.Result.{err_from_is_err_and}
use Rattle.std.proofs.lemmas.List.Sums.{prefix_len-le-length}
use Rattle.sota_histcsv.specs.Words.{is_shortage}
use Rattle.sota_histcsv.specs.Kept.{contents_in}
use Rattle.sota_histcsv.proofs.Keeping.{first_ok, first_err, unless_more}
use Rattle.sota_histcsv.proofs.Grouping.{of_arc, first_rest, next_rest, mine_is, mine_rises, mine_few, arc_refused, arc_timed}
use Rattle.sota_histcsv.proofs.times.timed_arcs.Goals as goal

pub loop-index-init : goal.loop-index-init
loop-index-init c = record {
  arcs = rw (c.reserve.ensures.items, c.new-arcs.ensures.items) refl;
  rest = rw c.as_slice-rest.ensures.value (first_rest c.args.table.now.entries.items c.requires.each c.requires.rise);
}

pub split_at-requires : goal.split_at-requires
split_at-requires c =
    rw c.count_first.ensures (prefix_len-le-length (of_arc (c.loop-index.index + 1)) c.loop-index.rest.now)

pub time_of-requires-clause-rise : goal.time_of-requires-clause-rise
time_of-requires-clause-rise c =
    let entries = c.args.table.now.entries.items in
    let mine =
    mine_is entries c.loop-index.rest.now c.split_at.result.0.now (c.loop-index.index + 1) c.count_first.result
    c.loop-index.invariant.rest c.count_first.ensures c.split_at.ensures.front in
    let pairs = c.deref.ensures.value ∙ c.in_ok-put_pairs.ensures in
    mine_rises entries c.split_at.result.0.now (c.loop-index.index + 1) c.deref.result.now c.requires.each c.requires.rise mine pairs

pub time_of-requires-clause-room : goal.time_of-requires-clause-room
time_of-requires-clause-room c =
    let entries = c.args.table.now.entries.items in
    let mine =
    mine_is entries c.loop-index.rest.now c.split_at.result.0.now (c.loop-index.index + 1) c.count_first.result
    c.loop-index.invariant.rest c.count_first.ensures c.split_at.ensures.front in
    let pairs = c.deref.ensures.value ∙ c.in_ok-put_pairs.ensures in
    omega (arith, mine_few entries c.split_at.result.0.now (c.loop-index.index + 1) c.deref.result.now mine pairs, c.requires.room)

pub returns-in_err-time : goal.returns-in_err-time
returns-in_err-time c =
    let entries = c.args.table.now.entries.items in
    let mine =
    mine_is entries c.loop-index.rest.now c.split_at.result.0.now (c.loop-index.index + 1) c.count_first.result
    c.loop-index.invariant.rest c.count_first.ensures c.split_at.ensures.front in
    let pairs = c.deref.ensures.value ∙ c.in_ok-put_pairs.ensures in
    let p = err_from_is_err_and c.from_residual-in_err-time.result c.from_residual-in_err-time.ensures.1 in
    rw (p.1, p.2)
    (unless_more (is_shortage c.in_err-time.field-0.0)
    (λ e. arc_refused (contents_in c.args.table.now) c.split_at.result.0.now c.deref.result.now c.loop-index.arcs.items
    c.args.raw.now c.args.raw.now c.loop-index.index c.index-raw-index.result c.in_err-time.field-0.0
    c.loop-index-test.true c.index-raw-index.is mine pairs c.loop-index.invariant.arcs (first_err _ _ _ e))
    c.in_err-time.ensures)

pub loop-index-preserved : goal.loop-index-preserved
loop-index-preserved c =
    let entries = c.args.table.now.entries.items in
    let mine =
    mine_is entries c.loop-index.rest.now c.split_at.result.0.now (c.loop-index.index + 1) c.count_first.result
    c.loop-index.invariant.rest c.count_first.ensures c.split_at.ensures.front in
    let pairs = c.deref.ensures.value ∙ c.in_ok-put_pairs.ensures in
    let good : is_ok c.push.result ≡ true = search rules in
    let time = first_ok _ _ _ c.in_ok-time.ensures in
    record {
      arcs = rw (rw good at c.push.ensures.items)
          (arc_timed (contents_in c.args.table.now) c.split_at.result.0.now c.deref.result.now c.loop-index.arcs.items
          c.args.raw.now c.args.raw.now c.loop-index.index c.index-raw-index.result c.in_ok-time.time
          c.loop-index-test.true c.index-raw-index.is mine pairs c.loop-index.invariant.arcs time.0 time.1);
      rest = next_rest entries c.loop-index.rest.now c.split_at.result.1.now (c.loop-index.index + 1) c.count_first.result
          c.loop-index.invariant.rest c.count_first.ensures c.split_at.ensures.back;
    }
