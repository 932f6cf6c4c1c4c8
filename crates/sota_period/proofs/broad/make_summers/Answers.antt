use Rattle.std.proofs.Common.{ℕ, ◌≡◌, ◌+◌, List, take, ◌∙◌, ap, subst, arith}
use Rattle.std.proofs.lemmas.List.Elements.{All-more, All-weaker}
use Rattle.sota_units.specs.Limits.{BUDGET_LIMIT}
use Rattle.sota_network.specs.declared.network.Arc.{Arc}
use Rattle.sota_period.specs.Broad.{IsWorkFor, kernel_length, summer_state, first_summer_state}
use Rattle.sota_period.proofs.Feeding.{places-few, made-more}
use Rattle.sota_period.proofs.broad.make_summers.Goals as goal

pub loop-arc-preserved : goal.loop-arc-preserved
loop-arc-preserved g c =
    let needs : List ℕ = c.args.needs.now in
    let from : ℕ = c.args.from in
    let arcs : List Arc = c.arcs-arcs.result.now in
    let k : ℕ = c.loop-arc.arc-index in
    let arc : Arc = c.arc-item.result in
    let made : summer_state g.Z.Summer.state c.in_ok-made.made ≡ first_summer_state needs from arc = c.in_ok-made.ensures in
    let places : c.places_of.result ≡ kernel_length (first_summer_state needs from arc) = c.places_of.ensures ∙ ap kernel_length made in
    let new : ℕ = c.max-places.result in
    let now : IsWorkFor new (first_summer_state needs from arc) = omega (arith, places, c.max-places.ensures) in
    record {
      states = made-more (summer_state g.Z.Summer.state) (first_summer_state needs from) c.loop-arc.summers.items _ c.in_ok-made.made arcs k arc c.in_ok-push.ensures.items c.loop-arc.invariant.states c.loop-arc-test.true c.arc-item.is made;
      places = All-more (λ a. IsWorkFor new (first_summer_state needs from a)) arcs k arc c.loop-arc-test.true
          (All-weaker (λ a. IsWorkFor c.loop-arc.places (first_summer_state needs from a)) (λ a. IsWorkFor new (first_summer_state needs from a)) (λ a fits. omega (arith, fits, c.max-places.ensures)) (take k arcs) c.loop-arc.invariant.places)
          (subst (λ a. IsWorkFor new (first_summer_state needs from a)) c.arc-item.is now);
      within = omega (arith, places, places-few needs from (BUDGET_LIMIT + 1) arc c.requires.within, c.max-places.ensures, c.loop-arc.invariant.within);
    }
