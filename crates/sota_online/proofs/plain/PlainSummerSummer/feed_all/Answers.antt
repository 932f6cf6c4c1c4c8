use Rattle.std.proofs.Common.{length, refl, arith}
use Rattle.sota_online.proofs.Putting.{put-state}
use Rattle.sota_online.proofs.plain.PlainSummerSummer.feed_all.Goals as goal

pub returns-clause-state : goal.returns-clause-state
returns-clause-state g c =
    let s = c.self.inside in
    let part = c.args.values.now in
    put-state s.kernel.items s.values.items _ c.put.new.into part s.values.len s.fed s.start (length part) _ c.args.self.now c.put.ensures.put c.deref_mut.ensures.value refl refl s.values.ok.0 (omega arith) c.self.invariant.0 c.self.view_is
