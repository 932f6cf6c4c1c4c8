-- How much time one must allow to arrive with a given chance.
use Rattle.std.specs.Prelude.{ℕ, ◌*◌, ◌^◌, ◌≤◌, nat_le, Option}
use Rattle.std.specs.List.{find}
use Rattle.sota_units.specs.Rounding.{ONE}
use Rattle.sota_network.specs.Network.{Net}
use Rattle.sota_network.specs.Trees.{Tree, Fits, score}
use Rattle.sota_network.specs.Region.{budgets}

-- who stands at node i can be at the destination within t ticks with a probability of at least c
-- units of ten to the minus eighteenth: some decision tree from there has it. Then one has it
-- within each greater budget, by `more_time_reaches`
abbrev pub ReachesWith : Net → ℕ → ℕ → ℕ → ℕ → Type 0
ReachesWith net dest i c t =
    (tree : Tree) × Fits net i tree × (c * net.scale ^ t ≤ ONE * score net dest i t tree)

-- the least budget of at most `most` at which a bound on the probability is at least c, none where
-- there is none
abbrev pub least_budget : (ℕ → ℕ) → ℕ → ℕ → Option ℕ
least_budget bound c most = find (λ t. nat_le c (bound t)) (budgets most)
