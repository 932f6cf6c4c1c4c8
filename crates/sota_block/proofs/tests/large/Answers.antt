use Rattle.std.proofs.Common.{ℕ, ◌≤◌, List, set, replicate, refl, arith}
use Rattle.std.specs.List.{All}
use Rattle.std.proofs.lemmas.List.Elements.{All-replicate, All-set}
use Rattle.sota_units.specs.Rounding.{ONE}
use Rattle.sota_block.proofs.tests.large.Goals as goal

-- two values of the test are low, and no other is above one
low : (xs : List ℕ) → All (λ v. v ≤ ONE) xs → All (λ v. v ≤ ONE) (set (set xs 70 1) 255 12345678901234567)
low xs all =
    All-set (λ v. v ≤ ONE) (set xs 70 1) 255 12345678901234567 (omega arith) (All-set (λ v. v ≤ ONE) xs 70 1 (omega arith) all)

pub product_plain-requires-clause-block : goal.product_plain-requires-clause-block
product_plain-requires-clause-block g c = (8, omega arith, refl)

pub product_plain-requires-clause-values : goal.product_plain-requires-clause-values
product_plain-requires-clause-values g c =
    low (replicate 256 1000000000000000000) (All-replicate (λ v. v ≤ ONE) 256 1000000000000000000 (omega arith))

pub product_fold-requires-clause-block : goal.product_fold-requires-clause-block
product_fold-requires-clause-block g c = (8, omega arith, refl)

pub product_fold-requires-clause-values : goal.product_fold-requires-clause-values
product_fold-requires-clause-values g c =
    low (replicate 256 1000000000000000000) (All-replicate (λ v. v ≤ ONE) 256 1000000000000000000 (omega arith))

pub returns : goal.returns
returns g c = omega (arith, c.product_plain.ensures.count 8 refl, c.product_fold.ensures.count 8 refl)
