use Rattle.std.proofs.Common.{ℕ, ◌≡◌, ◌-◌, ◌≤◌, ◌+◌, ◌==◌, List, length, slice_index_or, None, sym, ◌∙◌, ap, subst, arith}
use Rattle.std.proofs.lemmas.Bool.{eq-eqb}
use Rattle.sota_network.specs.Network.{Net}
use Rattle.sota_network.specs.declared.network.Arc.{Arc}
use Rattle.sota_bounds.specs.Cells.{pairs_by_lists}
use Rattle.sota_fill.specs.Fed.{SummersList}
use Rattle.sota_plan.specs.Runs.{FitsIn, kernel_places, first_position, first_sums_by}
use Rattle.sota_plan.proofs.Making.{MadeSome, made-free, made-more, made-all}
use Rattle.sota_plan.proofs.Places.{pairs-within, places-few, places-broad}
use Rattle.sota_plan.proofs.SumGoing.{out-tail, none-found}
use Rattle.sota_plan.proofs.summers.make_leaving.Goals as goal

pub put-requires-clause-none : goal.put-requires-clause-none
put-requires-clause-none g c =
    let net : Net = c.args.network.now in
    let es : List ℕ = c.leaving-number-items.result.now in
    let k : ℕ = c.loop-number.number-index in
    let n : ℕ = c.number-item.result in
    let tail : c.numbered.result.now.tail ≡ c.args.node = out-tail net c.args.node es k n c.numbered.result.now (c.numbers_of_arcs.ensures.only net (λ (a : Arc). a.tail == c.args.node)) c.leaving-number-items.ensures.value c.loop-number-test.true c.number-item.is c.numbered.ensures.value in
    none-found g.Z.Summer.state (slice_index_or c.loop-number.broad (n - 1) None)
    (made-free g.Z.Summer.state net c.args.tables.now c.args.region.now c.args.node es k c.args.broad.now c.loop-number.broad c.loop-number.places n c.loop-number.invariant c.leaving-number-items.ensures.value c.loop-number-test.true c.number-item.is
    (c.requires.none n c.numbered.result.now c.numbered.ensures.value tail))

pub loop-number-preserved : goal.loop-number-preserved
loop-number-preserved g c =
    let net : Net = c.args.network.now in
    let region = c.args.region.now in
    let tables = c.args.tables.now in
    let es : List ℕ = c.leaving-number-items.result.now in
    let k : ℕ = c.loop-number.number-index in
    let n : ℕ = c.number-item.result in
    let arc : Arc = c.numbered.result.now in
    let made = c.in_ok-made.made in
    let more : ℕ = c.max-places.result in
    let pairs : ℕ = pairs_by_lists region.least region.need arc.tail in
    let start : ℕ = first_position tables region arc in
    let number : (1 ≤ n) × (n ≤ length net.arcs) = subst (λ (i : ℕ). (1 ≤ i) × (i ≤ length net.arcs)) (sym c.number-item.is) (c.leaving-number-items.ensures.within k n c.loop-number-test.true) in
    let tail : arc.tail ≡ c.args.node = out-tail net c.args.node es k n arc (c.numbers_of_arcs.ensures.only net (λ (a : Arc). a.tail == c.args.node)) c.leaving-number-items.ensures.value c.loop-number-test.true c.number-item.is c.numbered.ensures.value in
    let places : c.places_of.result ≡ kernel_places (first_sums_by pairs start region.budget arc) = c.places_of.ensures ∙ ap kernel_places c.in_ok-made.ensures in
    let inside : (1 ≤ arc.tail) × (arc.tail ≤ net.nodes) = c.numbered.ensures.valid.tail in
    let few : pairs ≤ 65536 = pairs-within region.least region.need arc.tail c.requires.needs inside.0 (omega (arith, inside.1, c.requires.need)) in
    let fits : FitsIn region more arc = λ wide. omega (arith, places, places-broad pairs start region.budget arc wide, c.max-places.ensures) in
    subst (λ (xs : SummersList g.row.Z.Denot). MadeSome g.Z.Summer.state net tables region c.args.node es (k + 1) c.args.broad.now xs more) (sym c.in_ok-put.ensures.placed)
    (made-more g.Z.Summer.state net tables region c.args.node es k c.args.broad.now c.loop-number.broad c.loop-number.places more n arc made c.requires.broad c.loop-number.invariant c.loop-number-test.true c.number-item.is number c.numbered.ensures.value tail c.in_ok-made.ensures fits
    (omega (arith, c.max-places.ensures)) (omega (arith, places, places-few pairs start region.budget arc, few, c.max-places.ensures, c.loop-number.invariant.within)))

pub returns-clause-sums : goal.returns-clause-sums
returns-clause-sums g c = λ e arc at tail.
    let net : Net = c.args.network.now in
    (made-all g.Z.Summer.state net c.args.tables.now c.args.region.now c.args.node c.leaving-number-items.result.now c.loop-number.number-index c.args.broad.now c.loop-number.broad c.loop-number.places c.loop-number.invariant (omega (arith, c.loop-number-test.false)) c.leaving-number-items.ensures.value e
    (c.numbers_of_arcs.ensures.all net (λ (a : Arc). a.tail == c.args.node) e arc at (eq-eqb arc.tail c.args.node tail))).sums arc at

pub returns-clause-places : goal.returns-clause-places
returns-clause-places g c = λ e arc at tail.
    let net : Net = c.args.network.now in
    (made-all g.Z.Summer.state net c.args.tables.now c.args.region.now c.args.node c.leaving-number-items.result.now c.loop-number.number-index c.args.broad.now c.loop-number.broad c.loop-number.places c.loop-number.invariant (omega (arith, c.loop-number-test.false)) c.leaving-number-items.ensures.value e
    (c.numbers_of_arcs.ensures.all net (λ (a : Arc). a.tail == c.args.node) e arc at (eq-eqb arc.tail c.args.node tail))).fits arc at
