use Rattle.std.proofs.Common.{◌≡◌}
use Rattle.sota_polfile.specs.Places.{all_at}
use Rattle.sota_polfile.proofs.places.all_at.Given as goal

abbrev pub invariant-loop-i : goal.invariant-loop-i
invariant-loop-i g l = l.list.items ≡ all_at g.T.Stored.value_at g.T.Stored.LENGTH l.bytes l.at l.i
