use Rattle.std.proofs.Common.{ℕ, ◌≡◌, ◌+◌, length, List, sym, ◌∙◌, ap, subst, arith}
use Rattle.std.specs.List.{All}
use Rattle.sota_network.specs.Network.{Net, IsNet}
use Rattle.sota_sums.specs.declared.bound.Bound.{Bound}
use Rattle.sota_sums.specs.declared.bound.Bound.TheVariants.{Lower, Upper}
use Rattle.sota_period.specs.Periods.{TimedNet, first_net, timed_net}
use Rattle.sota_period.specs.Rows.{IsAsk}
use Rattle.sota_period.specs.Needs.{AreTimedNeeds, AreVisited}
use Rattle.sota_period.proofs.Filling.{needs-fit}
use Rattle.sota_period.specs.Grid.{tlo, thi, tchoice}
use Rattle.sota_period.specs.Trees.{TimedEncloses}
use Rattle.sota_period.proofs.plan.plan_timed.Given as given
use Rattle.sota_period.proofs.plan.plan_timed.Goals as goal
use Rattle.sota_period.proofs.plan.plan_timed.Goals.{After-deref-3}

pub returns-clause-encloses : goal.returns-clause-encloses
returns-clause-encloses g c =
    let net : TimedNet = timed_net c.args.timed.now c.args.deadline in
    let low : tlo net c.args.dest c.args.origin c.args.budget ≡ c.in_ok-lower.lower = sym c.in_ok-lower.ensures.value in
    let high : thi net c.args.dest c.args.origin c.args.budget ≡ c.in_ok-upper.upper = sym c.in_ok-upper.ensures in
    subst (λ (h : ℕ). TimedEncloses net c.args.dest c.args.origin c.args.budget c.in_ok-lower.lower h) high
    (subst (λ (l : ℕ). TimedEncloses net c.args.dest c.args.origin c.args.budget l (thi net c.args.dest c.args.origin c.args.budget)) low
    (c.timed_grid_encloses.ensures.encloses c.args.timed.now c.args.deadline c.args.dest c.args.origin c.args.budget c.find_timed_fault.ensures.valid))

pub returns-clause-order : goal.returns-clause-order
returns-clause-order g c =
    omega (arith, c.in_ok-lower.ensures.value, c.in_ok-upper.ensures, c.timed_grid_encloses.ensures.order c.args.timed.now c.args.deadline c.args.dest c.args.origin c.args.budget c.find_timed_fault.ensures.valid)

pub returns-clause-gap : goal.returns-clause-gap
returns-clause-gap g c =
    omega (arith, c.in_ok-lower.ensures.value, c.in_ok-upper.ensures, c.timed_grid_encloses.ensures.gap c.args.timed.now c.args.deadline c.args.dest c.args.origin c.args.budget c.find_timed_fault.ensures.valid)

pub returns-clause-plain : goal.returns-clause-plain
returns-clause-plain g c = λ net same.
    let valid : IsNet net = subst (λ (ps : List (ℕ × Net)). All (λ (p : ℕ × Net). IsNet p.1) ps) same c.find_timed_fault.ensures.valid.valid 0 (0, net) (omega arith) in (
      c.in_ok-lower.ensures.value ∙ ap (λ (ps : List (ℕ × Net)). tlo (timed_net ps c.args.deadline) c.args.dest c.args.origin c.args.budget) same
          ∙ c.one_period.ensures.lower net c.args.deadline c.args.dest c.args.origin c.args.budget valid,
      c.in_ok-upper.ensures ∙ ap (λ (ps : List (ℕ × Net)). thi (timed_net ps c.args.deadline) c.args.dest c.args.origin c.args.budget) same
          ∙ c.one_period.ensures.upper net c.args.deadline c.args.dest c.args.origin c.args.budget valid,
      c.in_ok-lower.ensures.next ∙ ap (λ (ps : List (ℕ × Net)). tchoice (timed_net ps c.args.deadline) c.args.dest c.args.origin c.args.budget) same
          ∙ c.one_period.ensures.choice net c.args.deadline c.args.dest c.args.origin c.args.budget valid,
    )

-- what is asked is within the limits, whatever the bound
asked : (g : given.Over) (c : After-deref-3 g) (bound : Bound)
    → IsAsk (record { timed = c.args.timed; dest = c.args.dest; budget = c.args.budget; deadline = c.args.deadline; bound = bound; needs = c.deref-2.result; visited = c.deref-3.result })
asked g c bound =
    let P : List (ℕ × Net) = c.args.timed.now in
    let needs : AreTimedNeeds P c.args.dest (c.args.budget + 1) c.deref-2.result.now =
    subst (λ (xs : List ℕ). AreTimedNeeds P c.args.dest (c.args.budget + 1) xs) (sym c.deref-2.ensures.value) c.in_ok-needs.ensures.needs in
    record {
      periods = c.find_timed_fault.ensures.valid;
      dest = c.in_default.ensures.dest;
      budget = c.in_default.ensures.budget;
      deadline = c.requires;
      needs = needs;
      total = needs-fit c.deref-2.result.now (c.args.budget + 1) (first_net P).nodes needs.within needs.count c.in_default.ensures.cells;
      visited = subst (λ (xs : List ℕ). AreVisited xs c.args.dest c.deref-3.result.now) (c.deref.ensures.value ∙ sym c.deref-2.ensures.value)
          (subst (λ (ys : List ℕ). AreVisited c.deref.result.now c.args.dest ys) (sym c.deref-3.ensures.value) c.in_ok-visited.ensures);
    }

pub plan_lower-requires-clause-ask : goal.plan_lower-requires-clause-ask
plan_lower-requires-clause-ask g c = asked g (goal.at.plan_lower-requires-clause-ask g c).After-deref-3 Lower

pub plan_bound-requires-clause-ask : goal.plan_bound-requires-clause-ask
plan_bound-requires-clause-ask g c = asked g (goal.at.plan_bound-requires-clause-ask g c).After-deref-3 Upper

pub find_visited-requires : goal.find_visited-requires
find_visited-requires g c =
    let P : List (ℕ × Net) = c.args.timed.now in
    let needs : AreTimedNeeds P c.args.dest (c.args.budget + 1) c.in_ok-needs.needs.items = c.in_ok-needs.ensures.needs in
    omega (arith, ap length c.deref.ensures.value, needs.count, c.in_default.ensures.cells)
