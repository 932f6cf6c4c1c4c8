use Rattle.std.proofs.Common.{◌≡◌, take}
use Rattle.std.specs.List.{All}
use Rattle.sota_network.specs.Network.{IsNet}
use Rattle.sota_period.specs.Periods.{first_net}
use Rattle.sota_period.proofs.timed.find_difference.Given as goal

abbrev pub invariant-loop-place : goal.invariant-loop-place
invariant-loop-place l = record {
  scale : l.scale ≡ (first_net l.periods).scale;
  valid : All (λ p. IsNet p.1) (take l.place l.periods);
  same : All (λ p. p.1.scale ≡ (first_net l.periods).scale) (take l.place l.periods);
}
