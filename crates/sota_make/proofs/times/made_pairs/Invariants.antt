use Rattle.std.proofs.Common.{◌≡◌, ◌+◌, ◌-◌, ◌≤◌}
use Rattle.sota_make.specs.Made.{MADE_SCALE, pairs_from}
use Rattle.sota_make.proofs.Pairs.{after}
use Rattle.sota_make.proofs.times.made_pairs.Given as goal

abbrev pub invariant-loop-index : goal.invariant-loop-index
invariant-loop-index l = record {
  rest : l.rest ≤ MADE_SCALE;
  value : after l.pairs.items (pairs_from (l.span - l.index) (l.least + l.index) l.rest l.words) ≡ pairs_from l.span l.least (MADE_SCALE - l.span) l.initial.words;
}
