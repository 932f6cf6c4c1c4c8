use Rattle.std.proofs.Common.{ℕ, ◌≡◌, ◌+◌, ◌≤◌, ◌++◌, List, Some, length, take, drop, slice_index, sym, ◌∙◌, ap, subst, arith}
use Rattle.std.proofs.lemmas.List.{length-take-le, length-append, length-drop, get_or_append_left}
use Rattle.sota_network.specs.Network.{Net}
use Rattle.sota_network.specs.Grid.{plain_sum}
use Rattle.sota_network.specs.declared.network.Arc.{Arc}
use Rattle.sota_period.specs.Rows.{row_value}
use Rattle.sota_network.specs.Among.{numbered_worth}
use Rattle.sota_period.specs.Broad.{IsRead}
use Rattle.sota_period.proofs.bests.find_bests.Goals as goal

-- the first places of a part, and a part of which these were written
cut-long : (count : ℕ) (places : List ℕ) → length places ≡ 64 → count ≤ 64 → length (take count places) ≡ count
cut-long count places full few = length-take-le count places (omega (arith, full, few))

written-long : (count : ℕ) (old new : List ℕ) → length old ≡ 64 → count ≤ 64 → length new ≡ count → length (new ++ drop count old) ≡ 64
written-long count old new full few long = omega (arith, length-append new (drop count old), length-drop count old, full, few, long)

pub sums_of-requires-clause-limit : goal.sums_of-requires-clause-limit
sums_of-requires-clause-limit g c = omega (arith, cut-long c.args.count c.loop-number.part.sums c.loop-number.invariant.sums c.requires.count, c.requires.limit)

pub sums_of-requires-clause-read : goal.sums_of-requires-clause-read
sums_of-requires-clause-read g c = λ arc at.
    let net : Net = c.args.network.now in
    let out = c.arcs_one_by_one.ensures.leaving net c.args.node c.loop-number.number-index c.number-item.result c.leaving-number-items.result.now c.leaving-number-items.ensures.value c.loop-number-test.true c.number-item.is in
    let same : out.0 ≡ arc = (let both : Some out.0 ≡ Some arc = sym out.1 ∙ at in cc) in
    let tail : arc.tail ≡ c.args.node = ap (λ (a : Arc). a.tail) (sym same) ∙ out.2 in
    subst (λ (n : ℕ). IsRead c.args.rows.now (c.args.from + n) arc) (sym (cut-long c.args.count c.loop-number.part.sums c.loop-number.invariant.sums c.requires.count)) (c.requires.read c.number-item.result arc at tail)

pub sums_of-requires-clause-summers : goal.sums_of-requires-clause-summers
sums_of-requires-clause-summers g c = c.loop-number.invariant.summers c.args.from c.requires.summers

pub raise-requires : goal.raise-requires
raise-requires g c =
    let cut = cut-long c.args.count c.loop-number.part.sums c.loop-number.invariant.sums c.requires.count in
    let long = written-long c.args.count c.loop-number.part.sums c.sums_of.new.into c.loop-number.invariant.sums c.requires.count (c.sums_of.ensures.room ∙ cut) in
    (omega (arith, long, c.requires.count), omega (arith, c.loop-number.invariant.room, c.requires.count))

pub loop-number-preserved : goal.loop-number-preserved
loop-number-preserved g c =
    let net : Net = c.args.network.now in
    let es : List ℕ = c.leaving-number-items.result.now in
    let k : ℕ = c.loop-number.number-index in
    let e : ℕ = c.number-item.result in
    let out = c.arcs_one_by_one.ensures.leaving net c.args.node k e es c.leaving-number-items.ensures.value c.loop-number-test.true c.number-item.is in
    let arc : Arc = out.0 in
    let P : ℕ → Arc → ℕ = λ x a. plain_sum a (row_value c.args.rows.now) (c.args.from + x) in
    let cut : length (take c.args.count c.loop-number.part.sums) ≡ c.args.count = cut-long c.args.count c.loop-number.part.sums c.loop-number.invariant.sums c.requires.count in
    let long : length c.sums_of.new.into ≡ c.args.count = c.sums_of.ensures.room ∙ cut in
    let rest : List ℕ = drop c.args.count c.loop-number.part.sums in
    record {
      sums = written-long c.args.count c.loop-number.part.sums c.sums_of.new.into c.loop-number.invariant.sums c.requires.count long;
      room = c.raise.ensures.room ∙ c.loop-number.invariant.room;
      grains = c.loop-number.invariant.grains;
      summers = λ t are. c.sums_of.ensures.summers t (c.loop-number.invariant.summers t are);
      bests = λ x h.
          c.arcs_one_by_one.ensures.best_step (numbered_worth net (P x)) es k e (slice_index c.loop-number.part.bests x) (slice_index (c.sums_of.new.into ++ rest) x) (slice_index c.raise.new.bests x) c.loop-number-test.true c.number-item.is (c.loop-number.invariant.bests x h)
          (get_or_append_left c.sums_of.new.into rest 0 x (omega (arith, h, long)) ∙ c.sums_of.ensures.sums arc out.1 x (omega (arith, h, cut)) ∙ c.arcs_one_by_one.ensures.number net (P x) e arc out.1) (c.raise.ensures.sums x h);
    }

pub returns-clause-bests : goal.returns-clause-bests
returns-clause-bests g c = λ x h.
    c.loop-number.invariant.bests x h
    ∙ c.arcs_one_by_one.ensures.best_end c.args.network.now (λ a. plain_sum a (row_value c.args.rows.now) (c.args.from + x)) c.args.node c.leaving-number-items.result.now c.loop-number.number-index c.leaving-number-items.ensures.value c.loop-number-test.false
