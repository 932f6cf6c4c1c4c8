use Rattle.std.proofs.Common.{◌≡◌, drop}
use Rattle.sota_hist.proofs.Parting.{parting}
use Rattle.sota_hist.proofs.difference.first_difference_of.Given as goal

abbrev pub invariant-loop-index : goal.invariant-loop-index
invariant-loop-index l = parting (drop l.index l.ours) (drop l.index l.theirs) ≡ parting l.ours l.theirs
