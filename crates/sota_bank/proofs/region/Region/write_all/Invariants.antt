use Rattle.std.proofs.Common.{◌≡◌, map, take, Some}
use Rattle.sota_bank.specs.Places.{spliced}
use Rattle.sota_bank.proofs.region.Region.write_all.Given as goal

abbrev pub invariant-loop-index : goal.invariant-loop-index
invariant-loop-index g l = record { written : l.self ≡ spliced l.fn.self l.fn.from l.index (map Some (take l.index l.fn.items)) }
