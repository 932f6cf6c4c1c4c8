use Rattle.std.proofs.Common.{ℕ, ◌≡◌, ◌+◌, ◌-◌, ◌≤◌, replicate, slice_index, List, None, sym, ◌∙◌, ap, arith}
use Rattle.sota_network.specs.Network.{Net, IsArc}
use Rattle.sota_bounds.specs.Cells.{listed_need}
use Rattle.sota_plan.proofs.Making.{upto-first, upto-none, upto-more, upto-skip, upto-all}
use Rattle.sota_plan.proofs.summers.make_summers.Goals as goal
use Rattle.sota_plan.proofs.summers.make_summers.Goals.{then-needs-index-gt0+in_ok-make_leaving, else-needs-index-gt0}

pub loop-index-init : goal.loop-index-init
loop-index-init g c =
    upto-first g.Z.Summer.state c.args.network.now c.args.tables.now c.args.region.now c.in_ok-broad.broad (c.in_ok-broad.ensures ∙ ap (λ (n : ℕ). replicate n None) c.arc_count.ensures.value)
    (λ e arc at. (c.arcs_by_number.ensures c.args.network.now e arc c.nodes-index-end.ensures.valid at).tail.0)

pub make_leaving-requires-clause-none : goal.make_leaving-requires-clause-none
make_leaving-requires-clause-none g c = λ e arc at there. upto-none g.Z.Summer.state c.args.network.now c.args.tables.now c.args.region.now c.loop-index.index c.loop-index.broad c.loop-index.places c.loop-index.invariant e arc at there

pub loop-index-preserved : goal.loop-index-preserved
loop-index-preserved g c =
    let net : Net = c.args.network.now in
    let tables = c.args.tables.now in
    let region = c.args.region.now in
    let k : ℕ = c.loop-index.index in
    let old = c.loop-index.broad in
    let places : ℕ = c.loop-index.places in
    let upto = c.loop-index.invariant in
    elim c.if-needs-index-gt0.branch [
      | then-needs-index-gt0+in_ok-make_leaving w ↦
          let made = w.in_ok-make_leaving.ensures in
          rw (w.broad-is, w.places-is)
          (upto-more g.Z.Summer.state net tables region k old w.make_leaving.new.broad places w.max-places.result upto made.length (omega (arith, w.max-places.ensures)) (omega (arith, w.max-places.ensures, made.within, upto.within))
          (λ e arc at there. (made.sums e arc at there, λ wide. omega (arith, made.places e arc at there wide, w.max-places.ensures)))
          made.others)
      | else-needs-index-gt0 w ↦
          let needs : List ℕ = region.need in
          let place : k + 1 - 1 ≡ k = omega arith in
          let none : listed_need needs (k + 1) ≡ 0 = ap (λ (n : ℕ). slice_index needs n) place ∙ sym (ap (λ (xs : List ℕ). slice_index xs k) c.as_slice-needs.ensures) ∙ omega (arith, w.if-needs-index-gt0.false) in
          rw (w.broad-is, w.places-is) (upto-skip g.Z.Summer.state net tables region k old places upto none)
    ]

pub returns-clause-sums : goal.returns-clause-sums
returns-clause-sums g c = λ e arc at.
    let net : Net = c.args.network.now in
    let valid : IsArc net arc = c.arcs_by_number.ensures net e arc c.nodes-index-end.ensures.valid at in
    let low : arc.tail ≤ c.loop-index.index = omega (arith, valid.tail.1, c.loop-index-test.false, c.nodes-index-end.ensures.value) in
    upto-all g.Z.Summer.state net c.args.tables.now c.args.region.now c.loop-index.index c.loop-index.broad c.loop-index.places c.loop-index.invariant e arc at low

pub returns-clause-places : goal.returns-clause-places
returns-clause-places g c = λ e arc at.
    let net : Net = c.args.network.now in
    let valid : IsArc net arc = c.arcs_by_number.ensures net e arc c.nodes-index-end.ensures.valid at in
    let low : arc.tail ≤ c.loop-index.index = omega (arith, valid.tail.1, c.loop-index-test.false, c.nodes-index-end.ensures.value) in
    c.loop-index.invariant.fits e arc at low
