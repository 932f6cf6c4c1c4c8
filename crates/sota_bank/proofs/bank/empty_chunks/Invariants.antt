use Rattle.std.proofs.Common.{◌≡◌, take, sum}
use Rattle.sota_bank.specs.Layout.{AreEmpty}
use Rattle.sota_bank.proofs.bank.empty_chunks.Given as goal

abbrev pub invariant-loop-cap : goal.invariant-loop-cap
invariant-loop-cap l = AreEmpty l.chunks.items (take l.cap-index l.caps) × (l.start ≡ sum (take l.cap-index l.caps))
