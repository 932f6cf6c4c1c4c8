use Rattle.std.proofs.Common.{ℕ, ◌≡◌, ◌-◌, ◌<◌, List, length, get_or, Some, refl, sym, ◌∙◌, ap, arith}
use Rattle.std.proofs.lemmas.Grind.{get_or_default_zero}
use Rattle.sota_fill.proofs.ArcPlaced.{view-long, place-some, view-value, view-set}
use Rattle.sota_fill.proofs.arc_map.ArcMap.value_mut.Goals as goal

pub returns : goal.returns
returns g c =
    let bs = c.self.inside.values.items in
    let ps : List ℕ = c.self.inside.places.items in
    let i : ℕ = c.args.arc - 1 in
    let p : ℕ = c.index-place.result.now in
    let inside : i < length ps = omega (arith, c.requires.number, view-long bs ps c.args.self.now c.self.view_is c.self.invariant) in
    let same : c.get.result - 1 ≡ i = omega (arith, c.get.ensures) in
    let read : p ≡ get_or ps i 0 = c.index-place.ensures ∙ ap (λ (k : ℕ). get_or ps k p) same ∙ get_or_default_zero ps i p inside in
    let some : 0 < p = place-some bs ps c.args.self.now c.self.view_is c.self.invariant i p read c.requires.some in (
      (refl, λ w. view-set bs ps c.args.self.now c.self.view_is c.self.invariant i p c.index_mut.result.now w read some),
      record { writes_back = tt; value = view-value bs ps c.args.self.now c.self.view_is c.self.invariant i p c.index_mut.result.now read some c.index_mut.ensures.value ∙ ap Some (sym c.as_mut.ensures.value) },
    )
