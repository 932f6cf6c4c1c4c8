use Rattle.std.proofs.lemmas.List.Sorted.{sum_by-IsPermutation}
use Rattle.sota_hist.specs.Build.{rising}
use Rattle.sota_hist.proofs.Order.{rising-rises, rising-permutes}
use Rattle.sota_hist.proofs.Known.{rising-done, sums-decide}
use Rattle.sota_hist.proofs.laws.order_of_pairs.Goals as goal

pub returns-clause-valid : goal.returns-clause-valid
returns-clause-valid c = λ pairs good few. rising-rises pairs few good

pub returns-clause-done : goal.returns-clause-done
returns-clause-done c = λ time rises. rising-done 0 time rises

pub returns-clause-sums : goal.returns-clause-sums
returns-clause-sums c = λ weight pairs.
    sum_by-IsPermutation weight pairs (rising pairs) (rising-permutes pairs)

pub returns-clause-known : goal.returns-clause-known
returns-clause-known c = sums-decide
