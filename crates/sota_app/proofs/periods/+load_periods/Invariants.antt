use Rattle.std.proofs.Common.{length}
use Rattle.sota_app.proofs.periods.+load_periods.Given as goal

abbrev pub decreases-load_periods : goal.decreases-load_periods
decreases-load_periods g l = length l.later.now
