use Rattle.std.proofs.Common.{◌≡◌, map, take}
use Rattle.sota_period.specs.Needs.{need_by}
use Rattle.sota_period.proofs.needs.needs_by.Given as goal

abbrev pub invariant-loop-time : goal.invariant-loop-time
invariant-loop-time l = l.needs.items ≡ map (need_by l.budget) (take l.time-index l.times)
