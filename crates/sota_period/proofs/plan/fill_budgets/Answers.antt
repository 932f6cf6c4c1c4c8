use Rattle.std.proofs.Common.{ℕ, ◌≡◌, ◌-◌, List, get_or, sym, ◌∙◌, ap, arith}
use Rattle.std.proofs.lemmas.List.{get_or_default}
use Rattle.sota_network.specs.Network.{Net}
use Rattle.sota_period.specs.Periods.{no_net, start_at}
use Rattle.sota_period.proofs.Periods.{holds}
use Rattle.sota_period.proofs.plan.fill_budgets.Goals as goal

pub fill_period-requires-clause-holds : goal.fill_period-requires-clause-holds
fill_period-requires-clause-holds g c = λ t low high.
    let periods : List (ℕ × Net) = c.args.ask.now.timed.now in
    let k : ℕ = c.find_period-place.result in
    let item : ℕ × Net = c.index-periods-place.result in
    let read : item ≡ get_or periods k (0, no_net) =
    c.index-periods-place.is ∙ ap (λ (ps : List (ℕ × Net)). get_or ps k item) c.periods-periods.ensures.value ∙ get_or_default periods k item (0, no_net) c.find_period-place.ensures.within in
    let start : item.0 ≡ start_at periods k = ap (λ (p : ℕ × Net). p.0) read in
    holds (c.args.ask.now.deadline - t) no_net periods k c.find_period-place.ensures.within
    (omega (arith, start, high, c.min-to.ensures, c.find_period-place.ensures.begun))
    (λ m above less. omega (arith, c.find_period-place.ensures.last m above less))
    ∙ ap (λ (p : ℕ × Net). p.1) (sym read)
