use Rattle.std.proofs.Common.{ℕ, zero, suc, ◌≡◌, ◌≤◌, ◌-◌, Option, None, Some, SomeIff, refl, ap, ◌∙◌, arith}
use Rattle.sota_kept.specs.LeastTime.{time_below}
use Rattle.sota_kept.proofs.least_time.LeastTime.get.Goals as goal

-- one less than the number is its time, where there is one less
one-less : (n : ℕ) (found : Option ℕ) → SomeIff found (1 ≤ n) (n - 1) → found ≡ time_below n
one-less zero None less = refl
one-less zero (Some time) less = absurd (let none : ⊥ = omega (arith, less.0) in none)
one-less (suc n) None less = absurd (less (omega arith))
one-less (suc n) (Some time) less = ap Some (omega (arith, less.1))

pub returns : goal.returns
returns c =
    one-less c.self.inside.above c.checked_sub.result c.checked_sub.ensures ∙ c.self.view_is
