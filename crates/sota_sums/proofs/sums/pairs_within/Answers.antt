use Rattle.std.proofs.Common.{sym, ◌∙◌, arith}
use Rattle.sota_sums.proofs.Tiles.{within-whole}
use Rattle.sota_sums.proofs.sums.pairs_within.Goals as goal

pub returns-then-get-limit : goal.returns-then-get-limit
returns-then-get-limit c = c.pairs.ensures.value ∙ sym (within-whole c.args.limit c.args.time.now (omega (arith, c.greatest.ensures.value)))
