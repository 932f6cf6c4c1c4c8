use Rattle.std.proofs.Common.{ℕ, ◌≡◌, ◌-◌, ◌<◌, List, length, get_or, Some, sym, ◌∙◌, ap, arith}
use Rattle.std.proofs.lemmas.Grind.{get_or_default_zero}
use Rattle.sota_fill.proofs.ArcPlaced.{view-long, view-value}
use Rattle.sota_fill.proofs.arc_map.ArcMap.get.Goals as goal

pub returns-in_default : goal.returns-in_default
returns-in_default g c =
    let bs = c.self.inside.values.items in
    let ps : List ℕ = c.self.inside.places.items in
    let i : ℕ = c.args.arc - 1 in
    let p : ℕ = c.index.result.now in
    let inside : i < length ps = omega (arith, c.requires, view-long bs ps c.args.self.now c.self.view_is c.self.invariant) in
    let same : c.get.result - 1 ≡ i = omega (arith, c.get.ensures) in
    let read : p ≡ get_or ps i 0 = c.index.ensures ∙ ap (λ (k : ℕ). get_or ps k p) same ∙ get_or_default_zero ps i p inside in
    let some : 0 < p = omega arith in
    ap Some c.as_ref.ensures ∙ sym (view-value bs ps c.args.self.now c.self.view_is c.self.invariant i p c.index-in_default.result.now read some c.index-in_default.ensures)
