use Rattle.std.proofs.Common.{◌≡◌, map, drop}
use Rattle.std.specs.List.{filter}
use Rattle.sota_hist.specs.Time.{least_of}
use Rattle.sota_check.specs.BracketRejected.{is_steep}
use Rattle.sota_check.proofs.Steep.{merged}
use Rattle.sota_check.proofs.judge_bracket.steep_node.Given as goal

abbrev pub invariant-loop-arc : goal.invariant-loop-arc
invariant-loop-arc l = merged l.least (least_of (map (λ arc. arc.tail) (filter (is_steep l.table) (drop l.arc-index l.arc-items)))) ≡ least_of (map (λ arc. arc.tail) (filter (is_steep l.table) l.arc-items))
