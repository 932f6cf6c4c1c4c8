-- After k arcs the entry of each node is the best of the first k.
use Rattle.std.proofs.Common.{ℕ, ◌≡◌, ◌<◌, ◌≤◌, ◌+◌, ◌-◌, ◌*◌, List, [], ◌∷◌, ◌++◌, length, get_or, arith, take, ap, ◌∙◌, sym, subst, set, replicate, Some, rules}
use Rattle.std.specs.List.{All}
use Rattle.std.proofs.lemmas.Bool.{ltb-true, ltb-false}
use Rattle.std.proofs.lemmas.List.{take_more, length-take-le, set-get_or}
use Rattle.std.proofs.lemmas.List.Elements.{All-more}
use Rattle.std.proofs.Math.Nat.{mul-le-mul_right}
use Rattle.sota_units.specs.Rounding.{ONE}
use Rattle.sota_hist.specs.Time.{total}
use Rattle.sota_network.specs.Network.{Net, IsArc}
use Rattle.sota_network.specs.Grid.{best_of, choice_of}
use Rattle.sota_network.specs.Bests.{table_sum, bests_of, no_best}
use Rattle.sota_network.specs.declared.network.Arc.{Arc}
use Rattle.sota_network.specs.declared.plain.Best.{Best}
use Rattle.sota_network.proofs.Listed.{replicate-listed, listed-at, All-listed}
use Rattle.sota_network.proofs.Best.{best-bound}
use Rattle.sota_network.proofs.Bests.{bests-grow, bests-stay}
use Rattle.sota_network.proofs.plain.find_bests.Goals as goal
use Rattle.sota_network.proofs.plain.find_bests.Goals.{then-is_below, else-is_below}

pub loop-index-init : goal.loop-index-init
loop-index-init c =
    let count : length c.args.bests.now ≡ c.nodes-nodes.result = omega arith in
    let cleared : c.fill.new.self ≡ replicate (length c.args.bests.now) no_best = c.fill.ensures.after (λ y h. search rules) in
    record {
      bests = cleared ∙ ap (λ (n : ℕ). replicate n no_best) count ∙ replicate-listed no_best c.nodes-nodes.result;
      within = λ k d h. absurd (omega arith);
    }

-- the arc that the loop has come to
item-valid : (c : goal.Joined-is_below) → IsArc c.args.network.now c.arc-item.result
item-valid c =
    let net : Net = c.args.network.now in
    let all : All (IsArc net) c.arcs-arc-items.result.now = subst (λ (arcs : List Arc). All (IsArc net) arcs) (sym c.arcs-arc-items.ensures.value) c.requires.valid.arcs in
    subst (λ (b : Arc). IsArc net b) (sym c.arc-item.is) (all c.loop-index.index c.arc-item.result c.loop-index-test.true)

pub loop-index-preserved : goal.loop-index-preserved
loop-index-preserved c =
    let n : ℕ = c.nodes-nodes.result in
    let arcs : List Arc = c.arcs-arc-items.result.now in
    let k : ℕ = c.loop-index.index in
    let a : Arc = c.arc-item.result in
    let P : Arc → ℕ = table_sum c.args.values.now c.nodes-nodes.result c.args.budget in
    let whole : ℕ = c.args.network.now.scale * ONE in
    let valid : IsArc c.args.network.now a = item-valid c in
    let low : 1 ≤ a.tail = valid.tail.0 in
    let high : a.tail ≤ n = omega (arith, valid.tail.1, c.nodes-nodes.ensures.value) in
    let front : take (k + 1) arcs ≡ take k arcs ++ a ∷ [] = take_more arcs k a c.loop-index-test.true ∙ ap (λ (b : Arc). take k arcs ++ b ∷ []) (sym c.arc-item.is) in
    let count : length (take k arcs) ≡ k = length-take-le k arcs (omega arith) in
    let most : total a.time * ONE ≤ whole = mul-le-mul_right ONE valid.total in
    let bound : P a ≤ whole = omega (arith, c.arc_sum-sum.ensures.value, c.arc_sum-sum.ensures.within) in
    let within : All (λ (arc : Arc). P arc ≤ whole) (take (k + 1) arcs) =
    All-more (λ (arc : Arc). P arc ≤ whole) arcs k a c.loop-index-test.true c.loop-index.invariant.within (subst (λ (b : Arc). P b ≤ whole) c.arc-item.is bound) in
    let at : c.get.result - 1 ≡ a.tail - 1 = ap (λ (m : ℕ). m - 1) c.get.ensures in
    let old : c.index-bests-get.result ≡ record { sum = best_of (take k arcs) P a.tail; arc = choice_of (take k arcs) P a.tail } =
    c.index-bests-get.is ∙ ap (λ (m : ℕ). get_or c.loop-index.bests m c.index-bests-get.result) at
    ∙ ap (λ (bests : List Best). get_or bests (a.tail - 1) c.index-bests-get.result) c.loop-index.invariant.bests
    ∙ listed-at (λ i. record { sum = best_of (take k arcs) P i; arc = choice_of (take k arcs) P i }) n a.tail c.index-bests-get.result low high in
    let old-sum : c.index-bests-get.result.sum ≡ best_of (take k arcs) P a.tail = ap (λ (b : Best). b.sum) old in
    let was : (get_or c.loop-index.bests (c.get.result - 1) c.index-bests-get.result).sum ≡ best_of (take k arcs) P a.tail = ap (λ (b : Best). b.sum) (sym c.index-bests-get.is) ∙ old-sum in
    elim c.if-is_below.branch [
      | then-is_below w ↦
          let less = ltb-true (get_or c.loop-index.bests (c.get.result - 1) c.index-bests-get.result).sum c.arc_sum-sum.result (sym c.is_below.ensures ∙ w.if-is_below.true) in
          let more : best_of (take k arcs) P a.tail < P a = omega (arith, was, less, c.arc_sum-sum.ensures.value) in
          let grown : set (bests_of n (take k arcs) P) (a.tail - 1) (record { sum = P a; arc = Some (1 + length (take k arcs)) }) ≡ bests_of n (take k arcs ++ a ∷ []) P =
          bests-grow P n (take k arcs) a low high more in
          let number : k + 1 ≡ 1 + length (take k arcs) = omega arith in
          record {
            bests = w.bests-is ∙ (rw (front, c.loop-index.invariant.bests, at, c.arc_sum-sum.ensures.value, w.new.ensures, number) grown);
            within = within;
          }
      | else-is_below w ↦
          let less = ltb-false (get_or c.loop-index.bests (c.get.result - 1) c.index-bests-get.result).sum c.arc_sum-sum.result (sym c.is_below.ensures ∙ w.if-is_below.false) in
          let no-more : P a ≤ best_of (take k arcs) P a.tail = omega (arith, was, less, c.arc_sum-sum.ensures.value) in
          record {
            bests = w.bests-is ∙ set-get_or c.loop-index.bests (c.get.result - 1) c.index-bests-get.result ∙ c.loop-index.invariant.bests ∙ (rw front (bests-stay P n (take k arcs) a no-more));
            within = within;
          }
    ]

pub returns-clause-within : goal.returns-clause-within
returns-clause-within c =
    let P : Arc → ℕ = table_sum c.args.values.now c.nodes-nodes.result c.args.budget in
    let arcs : List Arc = c.arcs-arc-items.result.now in
    let m : ℕ = c.args.network.now.scale * ONE in
    let seen : List Arc = take c.loop-index.index arcs in
    let bound : (i : ℕ) → best_of seen P i ≤ m = λ i. best-bound P m i seen c.loop-index.invariant.within in
    subst (λ (bests : List Best). All (λ b. b.sum ≤ m) bests) (sym c.loop-index.invariant.bests)
    (All-listed (λ (b : Best). b.sum ≤ m) (λ i. record { sum = best_of seen P i; arc = choice_of seen P i }) c.nodes-nodes.result bound)
