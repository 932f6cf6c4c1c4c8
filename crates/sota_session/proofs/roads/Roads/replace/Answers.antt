use Rattle.std.proofs.Common.{◌≡◌, ◌≤◌, IfSome, Option, None, Some, subst, sym}
use Rattle.sota_hist.specs.Time.{total}
use Rattle.sota_network.specs.Network.{Net, replaced}
use Rattle.sota_bounds.specs.Regions.{AreLeastTo}
use Rattle.sota_session.specs.declared.roads.KeptTimes.{KeptTimes}
use Rattle.sota_session.proofs.Ticking.{still-least}
use Rattle.sota_session.proofs.roads.Roads.replace.Goals as goal

-- what holds of the times that are kept, if any, goes on
each : (kept : Option KeptTimes) (P Q : KeptTimes → Type 0) → ((k : KeptTimes) → P k → Q k) → IfSome kept P → IfSome kept Q
each None P Q more holds = tt
each (Some k) P Q more holds = more k holds

pub invariant_of-self-then-stay-2 : goal.invariant_of-self-then-stay-2
invariant_of-self-then-stay-2 c =
    let net : Net = c.self.inside.network in
    let now = c.replace.new.self in
    let next : now ≡ replaced net c.args.arc c.args.time = c.in_ok-old.ensures.replaced in
    let more : (k : KeptTimes) → AreLeastTo net k.dest k.times → AreLeastTo now k.dest k.times =
    λ k are. subst (λ (n : Net). AreLeastTo n k.dest k.times) (sym next)
    (still-least net c.args.arc c.args.time k.dest k.times c.keeps_ticks-stay.ensures.valid c.requires.rises (subst (λ (n : Net). total c.args.time ≤ n.scale) (sym c.self.view_is) c.requires.total)
    (c.keeps_ticks-stay.ensures.ticks c.if-stay.true)
    (λ first i j arc least. c.edits_affect.ensures.same_tick net k.dest c.args.arc first i j arc c.args.time least) are) in
    subst (λ (kept : Option KeptTimes). IfSome kept (λ k. AreLeastTo now k.dest k.times)) (sym c.take-times.ensures.value)
    (each c.self.inside.times (λ k. AreLeastTo net k.dest k.times) (λ k. AreLeastTo now k.dest k.times) more c.self.invariant)
