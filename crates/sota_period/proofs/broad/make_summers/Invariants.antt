use Rattle.std.proofs.Common.{◌≡◌, ◌+◌, ◌≤◌, map, take}
use Rattle.std.specs.List.{All}
use Rattle.sota_units.specs.Limits.{BUDGET_LIMIT}
use Rattle.sota_period.specs.Broad.{IsWorkFor, summer_state, first_summer_state}
use Rattle.sota_period.proofs.broad.make_summers.Given as goal

abbrev pub invariant-loop-arc : goal.invariant-loop-arc
invariant-loop-arc g l = record {
  states : map (summer_state g.Z.Summer.state) l.summers.items ≡ map (first_summer_state l.needs l.from) (take l.arc-index l.arcs);
  places : All (λ arc. IsWorkFor l.places (first_summer_state l.needs l.from arc)) (take l.arc-index l.arcs);
  within : l.places ≤ BUDGET_LIMIT + 1;
}
