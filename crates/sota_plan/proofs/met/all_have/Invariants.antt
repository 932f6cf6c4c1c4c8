use Rattle.std.proofs.Common.{ℕ, ◌≡◌, ◌≤◌, true}
use Rattle.sota_plan.specs.Met.{has_all}
use Rattle.sota_plan.proofs.met.all_have.Given as goal

abbrev pub invariant-loop-index : goal.invariant-loop-index
invariant-loop-index l = (i : ℕ) → 1 ≤ i → i ≤ l.index → has_all l.tables l.region i ≡ true
