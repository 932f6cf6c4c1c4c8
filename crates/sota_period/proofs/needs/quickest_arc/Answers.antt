use Rattle.std.proofs.Common.{ℕ, ◌≡◌, ◌≤◌, ◌<◌, false, List, [], ◌∷◌, Option, None, Some, length, get_or, refl, sym, ◌∙◌, ap, subst}
use Rattle.std.proofs.lemmas.Result.{IfOk-weaker}
use Rattle.sota_hist.specs.Time.{is_closed, least_tick}
use Rattle.sota_network.specs.Network.{Net, arc_at}
use Rattle.sota_network.specs.declared.network.Arc.{Arc}
use Rattle.sota_period.specs.Periods.{ArePeriods, first_net, period_at}
use Rattle.sota_period.specs.Needs.{IsBy, IsQuickest}
use Rattle.sota_period.proofs.Scales.{first-is}
use Rattle.sota_period.proofs.Soonest.{quicker}
use Rattle.sota_period.proofs.needs.quickest_arc.Goals as goal

-- by the arc of the first period, and the least tick of that number in all periods
quickest-road : (periods seen : List (ℕ × Net)) (number : ℕ) (first : ℕ × Net) (arc quick : Arc) (tick : Option ℕ) → ArePeriods periods → seen ≡ periods
    → first ≡ get_or seen 0 first → arc_at (get_or seen 0 first).1 number ≡ Some arc → quick.tail ≡ arc.tail → quick.head ≡ arc.head
    → ((k : ℕ) (a : Arc) → k < length seen → arc_at (period_at seen k) number ≡ Some a → is_closed a.time ≡ false → IsBy tick (least_tick a.time))
    → ((late : ℕ) → IsBy tick late → (is_closed quick.time ≡ false) × (least_tick quick.time ≤ late))
    → IsQuickest periods number quick
quickest-road periods seen number first arc quick tick are same is there tail head least soon =
    let item : first ≡ get_or periods 0 first = is ∙ ap (λ (ps : List (ℕ × Net)). get_or ps 0 first) same in
    let at : arc_at (first_net periods) number ≡ Some arc =
    ap (λ (n : Net). arc_at n number) (sym (first-is periods first are.order.some item)) ∙ ap (λ (p : ℕ × Net). arc_at p.1 number) is ∙ there in
    let all : (k : ℕ) (a : Arc) → k < length periods → arc_at (period_at periods k) number ≡ Some a → is_closed a.time ≡ false → IsBy tick (least_tick a.time) =
    subst (λ (ps : List (ℕ × Net)). (k : ℕ) (a : Arc) → k < length ps → arc_at (period_at ps k) number ≡ Some a → is_closed a.time ≡ false → IsBy tick (least_tick a.time)) same least in
    quicker periods are number arc quick at tail head (λ k a less h opened. soon (least_tick a.time) (all k a less h opened))

pub returns-in-Some-clause-quickest : goal.returns-in-Some-clause-quickest
returns-in-Some-clause-quickest c =
    let quickest : Arc → Type 0 = IsQuickest c.args.timed.now c.args.number in
    let arc : Arc = c.numbered-arc.result.now in
    let quick : Arc = record { tail = arc.tail; head = arc.head; time = (c.in-Some.tick, 1) ∷ [] } in
    IfOk-weaker c.certain.result (λ (a : Arc). a ≡ quick) quickest
    (λ a is. subst quickest (sym is)
    (quickest-road c.args.timed.now c.periods-periods.result.now c.args.number c.index-periods-0.result arc quick (Some c.in-Some.tick) c.periods-periods.ensures.valid c.periods-periods.ensures.value c.index-periods-0.is c.numbered-arc.ensures.value refl refl c.in-Some.ensures.least (λ late by. (refl, by)))) c.certain.ensures

pub returns-in-None-clause-quickest : goal.returns-in-None-clause-quickest
returns-in-None-clause-quickest c =
    let arc : Arc = c.numbered-arc.result.now in
    quickest-road c.args.timed.now c.periods-periods.result.now c.args.number c.index-periods-0.result arc (record { tail = arc.tail; head = arc.head; time = c.closed.result }) None c.periods-periods.ensures.valid c.periods-periods.ensures.value c.index-periods-0.is c.numbered-arc.ensures.value refl refl c.in-None.ensures.least (λ late by. absurd by)
