use Rattle.std.proofs.Common.{ℕ, ◌≡◌, ◌+◌, ◌-◌, ◌<◌, suc, List, length, get_or, Some, refl, sym, ◌∙◌, ap, arith}
use Rattle.std.proofs.Math.ListN.{set}
use Rattle.sota_fill.proofs.ArcPlaced.{boxed_view, view-long, place-none, view-put, places-bound, places-put}
use Rattle.sota_fill.proofs.arc_map.ArcMap.put.Goals as goal

pub overflow_cast-len : goal.overflow_cast-len
overflow_cast-len g c =
    let bs = c.self.inside.values.items in
    let ps : List ℕ = c.self.inside.places.items in
    let i : ℕ = c.args.arc - 1 in
    let inside : i < length ps = omega (arith, c.requires.number, view-long bs ps c.args.self.now c.self.view_is c.self.invariant) in
    let free : get_or ps i 0 ≡ 0 = place-none bs ps c.args.self.now c.self.view_is c.self.invariant i (get_or ps i 0) refl c.requires.none in
    omega (arith, places-bound ps (length bs) i c.self.invariant inside free, c.self.invariant.few, c.len.ensures, c.in_ok-push.ensures.len)

pub invariant_of-self-2 : goal.invariant_of-self-2
invariant_of-self-2 g c =
    let bs = c.self.inside.values.items in
    let ps : List ℕ = c.self.inside.places.items in
    let i : ℕ = c.args.arc - 1 in
    let inside : i < length ps = omega (arith, c.requires.number, view-long bs ps c.args.self.now c.self.view_is c.self.invariant) in
    let free : get_or ps i 0 ≡ 0 = place-none bs ps c.args.self.now c.self.view_is c.self.invariant i (get_or ps i 0) refl c.requires.none in
    let same : c.get.result - 1 ≡ i = omega (arith, c.get.ensures) in
    let count : length c.push.new.self.items ≡ suc (length bs) = omega (arith, c.in_ok-push.ensures.len) in
    let number : c.len.result ≡ suc (length bs) = omega (arith, c.len.ensures, c.in_ok-push.ensures.len) in
    rw (same, number, count) (places-put ps (length bs) i c.self.invariant inside free)

pub returns-clause-placed : goal.returns-clause-placed
returns-clause-placed g c =
    let bs = c.self.inside.values.items in
    let ps : List ℕ = c.self.inside.places.items in
    let i : ℕ = c.args.arc - 1 in
    let same : c.get.result - 1 ≡ i = omega (arith, c.get.ensures) in
    let number : c.len.result ≡ length bs + 1 = omega (arith, c.len.ensures, c.in_ok-push.ensures.len) in
    ap (λ (k : ℕ). boxed_view c.push.new.self.items (set ps k c.len.result)) same ∙ ap (λ xs. boxed_view xs (set ps i c.len.result)) c.in_ok-push.ensures.items
    ∙ view-put bs ps c.args.self.now c.self.view_is c.self.invariant i c.len.result _ number ∙ ap (λ v. set c.args.self.now i v) (ap Some c.in_ok-new.ensures.ok ∙ sym c.in-Some.is)
