-- The grid: for each node and budget two bounds of the on-time probability in units of ten to the
-- minus eighteenth, and an arc to take. It is a plain recursion over all nodes and budgets, with
-- the two roundings outward.
use Rattle.std.specs.Prelude.{ℕ, zero, suc, ◌≡◌, ◌<◌, ◌≤◌, ◌-◌, ◌*◌, max, ◌==◌, ◌&&◌}
use Rattle.std.specs.Prelude.{List, [], ◌∷◌, map, Option, None, Some, if◌then◌else◌}
use Rattle.std.specs.List.{sum_by, filter}
use Rattle.sota_units.specs.Rounding.{ONE, floor_by, ceiling_by}
use Rattle.sota_hist.specs.Time.{within}
use Rattle.sota_network.specs.Network.{Net, arc_at}
use Rattle.sota_network.specs.Numbers.{first_number}
use Rattle.sota_network.specs.declared.network.Arc.{Arc}

-- the sum of each mass times the value at the budget that its tick leaves, over the pairs within
-- the budget: the others arrive late
abbrev pub weighed : (ℕ → ℕ) → ℕ → List (ℕ × ℕ) → ℕ
weighed v t pairs = sum_by (λ p. p.1 * v (t - p.0)) (within t pairs)

-- the plain sum of an arc: what the values at its head are worth at its tail, times the scale
abbrev pub plain_sum : Arc → (ℕ → ℕ → ℕ) → ℕ → ℕ
plain_sum arc f t = weighed (f arc.head) t arc.time

-- the greatest number of a list, 0 where it is empty
abbrev pub greatest : List ℕ → ℕ
greatest [] = 0
greatest (x ∷ xs) = max x (greatest xs)

-- the arcs that leave node i
abbrev pub leaving : ℕ → List Arc → List Arc
leaving i arcs = filter (λ arc. arc.tail == i) arcs

-- the greatest worth among the arcs that leave node i, 0 where none does
abbrev pub best_of : List Arc → (Arc → ℕ) → ℕ → ℕ
best_of arcs worth i = greatest (map worth (leaving i arcs))

-- the greatest plain sum among the arcs that leave node i
abbrev pub best_sum : Net → (ℕ → ℕ → ℕ) → ℕ → ℕ → ℕ
best_sum net f i t = best_of net.arcs (λ arc. plain_sum arc f t) i

-- the value of node i at budget t, where `f` has the values at smaller budgets: who stands at the
-- destination has arrived, and from elsewhere the best arc is taken
abbrev pub value_from : (ℕ → ℕ → ℕ) → Net → ℕ → (ℕ → ℕ → ℕ) → ℕ → ℕ → ℕ
value_from round net dest f i t = if i == dest then ONE else round net.scale (best_sum net f i t)

-- the step, taken k times from x
abbrev pub repeated : {X : Type 0} → X → ((ℕ → ℕ → X) → ℕ → ℕ → X) → ℕ → ℕ → ℕ → X
repeated x step zero i t = x
repeated x step (suc k) i t = step (repeated x step k) i t

-- a step that reads only smaller budgets
abbrev pub Causal : {X : Type 0} → ((ℕ → ℕ → X) → ℕ → ℕ → X) → Type 0
Causal {X} step = (f g : ℕ → ℕ → X) (i t : ℕ) → ((j u : ℕ) → u < t → f j u ≡ g j u)
    → step f i t ≡ step g i t

-- what a step settles that says what stands at node i and budget t from what stands at smaller
-- budgets: each tick is at least 1, so t + 1 times are enough. That it satisfies the step at every
-- node and budget is proved by `grid_recurs`, and of any such step by `steps_settle`
unfoldable pub by_budget : {X : Type 0} → X → ((ℕ → ℕ → X) → ℕ → ℕ → X) → ℕ → ℕ → X
by_budget x step i t = repeated x step (suc t) i t

-- the lower value of node i at budget t
unfoldable pub lo : Net → ℕ → ℕ → ℕ → ℕ
lo net dest i t = by_budget 0 (value_from floor_by net dest) i t

-- the upper value of node i at budget t
unfoldable pub hi : Net → ℕ → ℕ → ℕ → ℕ
hi net dest i t = by_budget 0 (value_from ceiling_by net dest) i t

-- the least number of an arc that leaves node i and has the greatest worth there, none where that
-- is 0
abbrev pub choice_of : List Arc → (Arc → ℕ) → ℕ → Option ℕ
choice_of arcs worth i =
    if best_of arcs worth i == 0 then None else
    first_number (λ arc. (arc.tail == i) && (worth arc == best_of arcs worth i)) 1 arcs

-- the least number of an arc that leaves node i and has the greatest worth there, which is not 0
pub record IsFirstBest (net : Net) (worth : Arc → ℕ) (i e : ℕ) : Type 0 where
  pub arc : Arc
  pub number : arc_at net e ≡ Some arc
  pub tail : arc.tail ≡ i
  pub positive : 1 ≤ worth arc
  pub greatest : worth arc ≡ best_of net.arcs worth i
  pub first : (k : ℕ) (other : Arc) → arc_at net k ≡ Some other → other.tail ≡ i
      → worth other ≡ worth arc → e ≤ k

-- the arc to take from node i at budget t, by the lower values: none at the destination
unfoldable pub choice : Net → ℕ → ℕ → ℕ → Option ℕ
choice net dest i t =
    if i == dest then None else choice_of net.arcs (λ arc. plain_sum arc (lo net dest) t) i
