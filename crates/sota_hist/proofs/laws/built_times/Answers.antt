use Rattle.std.proofs.Common.{◌∙◌, ◌==◌, nat_le, arith}
use Rattle.std.proofs.lemmas.Bool.{eqb-true, leb-true}
use Rattle.sota_hist.specs.Time.{total}
use Rattle.sota_hist.proofs.Building.{time-from_no_fault}
use Rattle.sota_hist.proofs.laws.built_times.Goals as goal

pub returns-clause-exact : goal.returns-clause-exact
returns-clause-exact c = λ scale pairs none.
    let time = time-from_no_fault (λ sum. sum == scale) pairs none in
    (time.0, time.1 ∙ eqb-true (total pairs) scale time.2)

pub returns-clause-at_most : goal.returns-clause-at_most
returns-clause-at_most c = λ scale pairs none.
    let time = time-from_no_fault (λ sum. nat_le sum scale) pairs none in
    (time.0, omega (arith, time.1, leb-true (total pairs) scale time.2))
