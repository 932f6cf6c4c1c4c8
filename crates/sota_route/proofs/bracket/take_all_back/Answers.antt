use Rattle.std.proofs.Common.{ℕ, ◌≡◌, ◌+◌, ◌-◌, List, ◌∷◌, Some, slice_index, drop, refl, sym, ◌∙◌, ap, arith}
use Rattle.std.proofs.lemmas.List.{drop_more}
use Rattle.std.proofs.Math.Seq.{drop-length}
use Rattle.sota_network.specs.Network.{IsArc, arc_at}
use Rattle.sota_network.specs.declared.network.Arc.{Arc}
use Rattle.sota_sums.specs.Bounds.{rounded_in}
use Rattle.sota_route.specs.Bounds.{route_value}
use Rattle.sota_route.proofs.Values.{value-end, value-whole, value-back}
use Rattle.sota_route.proofs.bracket.take_all_back.Goals as goal

pub loop-left-init : goal.loop-left-init
loop-left-init c = record {
  length_is = refl;
  within = omega arith;
  values = λ u less. c.requires.ones u less ∙ sym (rw drop-length (value-end (rounded_in c.args.bound) c.args.network.now c.args.dest u));
}

pub take_back-requires-clause-whole : goal.take_back-requires-clause-whole
take_back-requires-clause-whole c = λ u less.
    let arcs : (e : ℕ) (arc : Arc) → arc_at c.args.network.now e ≡ Some arc → IsArc c.args.network.now arc =
    λ e arc is. c.arcs_by_number.ensures c.args.network.now e arc c.scale-scale.ensures.valid is in
    rw (c.loop-left.invariant.values u (omega (arith, c.loop-left.invariant.length_is)))
    (value-whole c.sums_and_scores.ensures.sums c.sums_and_scores.ensures.rounding c.args.network.now c.scale-scale.ensures.valid.scale c.args.dest arcs c.args.bound (drop c.loop-left.left c.args.route.now) u)

pub loop-left-preserved : goal.loop-left-preserved
loop-left-preserved c =
    let arcs : (e : ℕ) (arc : Arc) → arc_at c.args.network.now e ≡ Some arc → IsArc c.args.network.now arc =
    λ e arc is. c.arcs_by_number.ensures c.args.network.now e arc c.scale-scale.ensures.valid is in
    let e = c.index-route-left.result in
    let next : c.loop-left.left - 1 + 1 ≡ c.loop-left.left = omega (arith, c.loop-left-test.true) in
    let rest = drop c.loop-left.left c.args.route.now in
    let whole : drop (c.loop-left.left - 1) c.args.route.now ≡ e ∷ rest =
    drop_more c.args.route.now (c.loop-left.left - 1) e (omega (arith, c.loop-left.invariant.within, c.loop-left-test.true))
    ∙ ap (λ (x : ℕ). x ∷ drop (c.loop-left.left - 1 + 1) c.args.route.now) (sym c.index-route-left.is)
    ∙ ap (λ (n : ℕ). e ∷ drop n c.args.route.now) next in
    record {
      length_is = c.take_back.ensures.length ∙ c.loop-left.invariant.length_is;
      within = omega (arith, c.loop-left.invariant.within);
      values = λ u less.
          c.take_back.ensures.value c.args.network.now u (sym c.scale-scale.ensures.value) (omega (arith, c.loop-left.invariant.length_is))
          ∙ value-back c.sums_and_scores.ensures.sums c.sums_and_scores.ensures.rounding c.args.network.now c.scale-scale.ensures.valid.scale c.args.dest arcs (rounded_in c.args.bound) e rest c.numbered-arc.result.now (λ x. slice_index c.loop-left.values x) u c.numbered-arc.ensures.value (λ v under. c.loop-left.invariant.values v (omega arith))
          ∙ ap (λ (route : List ℕ). route_value (rounded_in c.args.bound) c.args.network.now c.args.dest route u) (sym whole);
    }
