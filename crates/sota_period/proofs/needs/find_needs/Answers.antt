use Rattle.std.proofs.Common.{ℕ, ◌≡◌, ◌+◌, length, sym, ◌∙◌, ap, subst, arith, List}
use Rattle.std.proofs.lemmas.Result.{IfOk-weaker}
use Rattle.std.specs.Prelude.{map}
use Rattle.std.specs.Prelude.{Option, None, ◌-◌, slice_index_or}
use Rattle.sota_network.specs.Network.{Net, IsNode}
use Rattle.sota_network.specs.Walks.{IsLeastTime}
use Rattle.sota_period.specs.Needs.{AreTimedNeeds, AreQuickest, node_need, need_by}
use Rattle.sota_period.proofs.Soonest.{are-needs, origin-need}
use Rattle.sota_period.proofs.needs.find_needs.Goals as goal

pub returns-clause-needs : goal.returns-clause-needs
returns-clause-needs c =
    let P : List (ℕ × Net) = c.args.timed.now in
    let quick : Net = c.in_ok-quick.quick in
    let times : List (Option ℕ) = c.deref.result.now in
    let nodes : length times ≡ quick.nodes = ap length c.deref.ensures.value ∙ c.in_ok-times.ensures.nodes in
    let least : (i : ℕ) → IsNode quick i → IsLeastTime quick c.args.dest c.args.origin i (slice_index_or times (i - 1) None) =
    subst (λ (ts : List (Option ℕ)). (i : ℕ) → IsNode quick i → IsLeastTime quick c.args.dest c.args.origin i (slice_index_or ts (i - 1) None)) (sym c.deref.ensures.value) c.in_ok-times.ensures.least in
    IfOk-weaker c.needs_by.result (λ needs. needs.items ≡ map (need_by c.args.budget) times) (λ needs. AreTimedNeeds P c.args.dest (c.args.budget + 1) needs.items)
    (λ needs is. subst (λ (xs : List ℕ). AreTimedNeeds P c.args.dest (c.args.budget + 1) xs) (sym is)
    (are-needs c.network_laws.ensures P quick c.in_ok-quick.ensures c.args.dest c.args.origin c.args.budget times nodes least
    (λ i j k n m one two. c.reaches_by_walks.ensures.joined quick c.args.dest i j k n m one two))) c.needs_by.ensures

pub returns-clause-origin : goal.returns-clause-origin
returns-clause-origin c =
    let P : List (ℕ × Net) = c.args.timed.now in
    let quick : Net = c.in_ok-quick.quick in
    let times : List (Option ℕ) = c.deref.result.now in
    let nodes : length times ≡ quick.nodes = ap length c.deref.ensures.value ∙ c.in_ok-times.ensures.nodes in
    let least : (i : ℕ) → IsNode quick i → IsLeastTime quick c.args.dest c.args.origin i (slice_index_or times (i - 1) None) =
    subst (λ (ts : List (Option ℕ)). (i : ℕ) → IsNode quick i → IsLeastTime quick c.args.dest c.args.origin i (slice_index_or ts (i - 1) None)) (sym c.deref.ensures.value) c.in_ok-times.ensures.least in
    let quickest_is : AreQuickest P quick = c.in_ok-quick.ensures in
    let node : IsNode quick c.args.origin = (c.requires.origin.0, omega (arith, quickest_is.nodes, c.requires.origin.1)) in
    IfOk-weaker c.needs_by.result (λ needs. needs.items ≡ map (need_by c.args.budget) times) (λ needs. node_need needs.items c.args.origin ≡ c.args.budget + 1)
    (λ needs is. ap (λ (xs : List ℕ). node_need xs c.args.origin) is
    ∙ origin-need c.network_laws.ensures P quick c.in_ok-quick.ensures c.args.dest c.args.origin c.args.budget times nodes least node) c.needs_by.ensures
