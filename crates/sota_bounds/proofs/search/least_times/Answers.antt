use Rattle.std.proofs.Common.{ℕ, None}
use Rattle.std.proofs.lemmas.Result.{IfOk-weaker}
use Rattle.sota_network.specs.Network.{IsNode}
use Rattle.sota_bounds.specs.Search.{time_at, IsFoundBetween, IsLeastBetween}
use Rattle.sota_bounds.proofs.Joined.{found-least}
use Rattle.sota_bounds.proofs.search.least_times.Goals as goal

pub returns-clause-least : goal.returns-clause-least
returns-clause-least c =
    IfOk-weaker c.search.result
    (λ times. (i : ℕ) → IsNode c.args.network.now i → IsFoundBetween None c.args.network.now c.args.dest c.args.direction c.args.source i (time_at times.items i))
    (λ times. (i : ℕ) → IsNode c.args.network.now i → IsLeastBetween c.args.network.now c.args.dest c.args.direction c.args.source i (time_at times.items i))
    (λ times found i node. found-least c.args.network.now c.args.dest c.args.direction c.args.source i (time_at times.items i) (found i node)) c.search.ensures.found
