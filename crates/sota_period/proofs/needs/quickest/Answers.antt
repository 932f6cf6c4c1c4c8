use Rattle.std.proofs.Common.{ℕ, ◌≡◌, ◌+◌, ◌<◌, List, [], ◌∷◌, ◌++◌, length, get_or, sym, ◌∙◌, ap, subst, arith}
use Rattle.std.specs.List.{All}
use Rattle.std.proofs.lemmas.List.{length-append}
use Rattle.std.proofs.lemmas.List.Elements.{All-push}
use Rattle.sota_network.specs.declared.network.Arc.{Arc}
use Rattle.sota_network.specs.Network.{Net, IsNet}
use Rattle.sota_period.specs.Periods.{ArePeriods, first_net}
use Rattle.sota_period.specs.Needs.{AreQuickest, IsCertain, IsQuickest}
use Rattle.sota_period.proofs.Scales.{first-is}
use Rattle.sota_period.proofs.Soonest.{quickest-more, quickest-all}
use Rattle.sota_period.proofs.needs.quickest.Goals as goal

pub loop-index-preserved : goal.loop-index-preserved
loop-index-preserved c =
    let P : List (ℕ × Net) = c.args.timed.now in
    let old : List Arc = c.loop-index.arcs.items in
    let quick : Arc = c.in_ok-quickest_arc.field-0 in
    let k : ℕ = c.loop-index.index in
    let items : c.push.new.self.items ≡ old ++ quick ∷ [] = c.in_ok-push.ensures.items in
    record {
      count = omega (arith, ap length items, length-append old (quick ∷ []), c.loop-index.invariant.count);
      certain = subst (λ (xs : List Arc). All (IsCertain (first_net P).nodes) xs) (sym items)
          (All-push (IsCertain (first_net P).nodes) old quick c.loop-index.invariant.certain c.in_ok-quickest_arc.ensures.valid);
      quickest = subst (λ (xs : List Arc). (n : ℕ) (d : Arc) → n < k + 1 → IsQuickest P (n + 1) (get_or xs n d)) (sym items)
          (quickest-more P k old quick c.loop-index.invariant.count c.in_ok-quickest_arc.ensures.quickest c.loop-index.invariant.quickest);
    }

pub returns : goal.returns
returns c =
    let P : List (ℕ × Net) = c.args.timed.now in
    let item : ℕ × Net = c.index-periods-0.result in
    let are : ArePeriods P = c.periods.ensures.valid in
    let there : item ≡ get_or P 0 item = c.index-periods-0.is ∙ ap (λ (ps : List (ℕ × Net)). get_or ps 0 item) c.periods.ensures.value in
    let made : Net = record { nodes = c.nodes-nodes.result; scale = 1; arcs = c.loop-index.arcs.items } in
    let is : c.in_ok-quick.quick ≡ made = c.in_ok-quick.ensures.value in
    let valid : IsNet made = subst (λ (n : Net). IsNet n) is c.in_ok-quick.ensures.valid in
    let many : length (first_net P).arcs ≡ c.arc_count-count.result =
    ap (λ (n : Net). length n.arcs) (sym (first-is P item are.order.some there)) ∙ ap (λ (p : ℕ × Net). length p.1.arcs) c.index-periods-0.is ∙ sym c.arc_count-count.ensures.value in
    subst (λ (n : Net). AreQuickest P n) (sym is)
    (quickest-all P are made valid c.nodes-nodes.ensures.value (omega (arith, many, c.loop-index-test.false, c.loop-index.invariant.count))
    (λ n d less. c.loop-index.invariant.quickest n d (omega (arith, less, c.loop-index.invariant.count))))
