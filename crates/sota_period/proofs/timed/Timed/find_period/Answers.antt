use Rattle.std.proofs.Common.{ℕ, ◌≡◌, List, get_or, ◌∙◌, ap, arith}
use Rattle.std.proofs.lemmas.List.{get_or_default}
use Rattle.sota_network.specs.Network.{Net}
use Rattle.sota_period.specs.Periods.{no_net, start_at}
use Rattle.sota_period.proofs.Periods.{holds}
use Rattle.sota_period.proofs.timed.Timed.find_period.Goals as goal

pub returns-clause-holds : goal.returns-clause-holds
returns-clause-holds c =
    let periods : List (ℕ × Net) = c.args.self.now in
    let k : ℕ = c.loop-place.place in
    let item : ℕ × Net = c.index-periods-place.result in
    let read : get_or c.periods-periods.result.now k item ≡ get_or periods k (0, no_net) =
    ap (λ (ps : List (ℕ × Net)). get_or ps k item) c.periods-periods.ensures.value ∙ get_or_default periods k item (0, no_net) c.loop-place.invariant.within in
    let start : (get_or c.periods-periods.result.now k item).0 ≡ start_at periods k = ap (λ (p : ℕ × Net). p.0) read in
    holds c.args.clock no_net periods k c.loop-place.invariant.within (omega (arith, start, c.loop-place-test.false)) c.loop-place.invariant.last
