use Rattle.std.proofs.Common.{◌≡◌, ◌++◌, take}
use Rattle.sota_polfile.specs.Spelling.{spelled_numbers}
use Rattle.sota_polfile.proofs.writing.put_numbers.Given as goal

abbrev pub invariant-loop-n : goal.invariant-loop-n
invariant-loop-n l = l.out.items ≡ l.initial.out.items ++ spelled_numbers (take l.n-index l.ns)
