use Rattle.std.proofs.Common.{length}
use Rattle.sota_block.proofs.fold.+fold.Given as goal

abbrev pub decreases-fold : goal.decreases-fold
decreases-fold g l = length l.kernel.now
