use Rattle.std.proofs.Common.{◌+◌, ◌*◌, sym, arith}
use Rattle.std.proofs.lemmas.List.FromFn.{map-range_with_len_more}
use Rattle.sota_polfile.proofs.places.all_at.Goals as goal

pub loop-i-preserved : goal.loop-i-preserved
loop-i-preserved g c =
    let more = map-range_with_len_more (λ i. g.T.Stored.value_at c.args.bytes.now (c.args.at + g.T.Stored.LENGTH * i)) 0 c.loop-i.i c.loop-i.i (omega arith) in
    rw (c.in_ok-push.ensures.items, c.read.ensures, c.loop-i.invariant, c.LENGTH.ensures) (sym more)
