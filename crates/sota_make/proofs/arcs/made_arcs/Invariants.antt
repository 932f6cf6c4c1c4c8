use Rattle.std.proofs.Common.{◌≡◌, ◌+◌, ◌-◌, ◌++◌}
use Rattle.sota_make.specs.Made.{made_arcs}
use Rattle.sota_make.proofs.arcs.made_arcs.Given as goal

abbrev pub invariant-loop-index : goal.invariant-loop-index
invariant-loop-index l =
    l.list.items ++ made_arcs l.nodes l.span (l.arcs - l.index) (l.index + 1) l.words ≡ made_arcs l.nodes l.span l.arcs 1 l.initial.words
