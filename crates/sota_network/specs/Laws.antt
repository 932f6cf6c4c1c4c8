-- What is true of sums over the pairs of a travel time, of ticks, of the two roundings, of scores
-- and of lists by number, whatever the network. `sums_and_scores`, `scores_by_pairs` and
-- `lists_by_number` say that it is.
use Rattle.std.specs.Prelude.{ℕ, ◌≡◌, ◌≢◌, ◌+◌, ◌-◌, ◌*◌, ◌^◌, ◌<◌, ◌≤◌, false, List, [], ◌∷◌}
use Rattle.std.specs.Prelude.{length, slice_get, slice_index_or, Some}
use Rattle.std.specs.List.{All}
use Rattle.sota_units.specs.Rounding.{floor_by, ceiling_by}
use Rattle.sota_hist.specs.Time.{RisesFrom, IsTime, total, is_closed, least_tick}
use Rattle.sota_network.specs.Network.{Net, arc_at}
use Rattle.sota_network.specs.Numbers.{listed}
use Rattle.sota_network.specs.Grid.{weighed}
use Rattle.sota_network.specs.Trees.{Tree, Trees, stop, go, tree_then, score, scores}
use Rattle.sota_network.specs.declared.network.Arc.{Arc}

-- a sum goes pair by pair and reads only the values at what each pair leaves, which is less than
-- the budget: where these are larger by at most g, it is larger by at most the total of the masses
-- times g, and where they rise it rises with the budget
pub record SumLaws : Type 0 where
  pub inside : (v : ℕ → ℕ) (t : ℕ) (p : ℕ × ℕ) (ps : List (ℕ × ℕ)) → p.0 ≤ t
      → weighed v t (p ∷ ps) ≡ p.1 * v (t - p.0) + weighed v t ps
  pub outside : (v : ℕ → ℕ) (t : ℕ) (p : ℕ × ℕ) (ps : List (ℕ × ℕ)) → t < p.0
      → weighed v t (p ∷ ps) ≡ weighed v t ps
  pub near : (v w : ℕ → ℕ) (g t : ℕ) (time : List (ℕ × ℕ)) → IsTime time
      → ((u : ℕ) → u < t → v u ≤ w u + g)
      → weighed v t time ≤ weighed w t time + total time * g
  pub same : (v w : ℕ → ℕ) (t : ℕ) (time : List (ℕ × ℕ)) → IsTime time
      → ((u : ℕ) → u < t → v u ≡ w u) → weighed v t time ≡ weighed w t time
  pub agree : (v w : ℕ → ℕ) (t : ℕ) (pairs : List (ℕ × ℕ))
      → All (λ (p : ℕ × ℕ). p.0 ≤ t → v (t - p.0) ≡ w (t - p.0)) pairs
      → weighed v t pairs ≡ weighed w t pairs
  pub whole : (v : ℕ → ℕ) (m t : ℕ) (time : List (ℕ × ℕ)) → IsTime time
      → ((u : ℕ) → u < t → v u ≤ m) → weighed v t time ≤ total time * m
  pub rise : (v : ℕ → ℕ) (t u : ℕ) (time : List (ℕ × ℕ)) → IsTime time
      → ((a b : ℕ) → a < t → a ≤ b → v a ≤ v b) → t ≤ u → weighed v t time ≤ weighed v u time

-- ticks rise, so each is above the floor and at least the first. What has a pair is open
pub record TickLaws : Type 0 where
  pub above : (floor : ℕ) (pairs : List (ℕ × ℕ)) → RisesFrom floor pairs
      → All (λ (p : ℕ × ℕ). floor < p.0) pairs
  pub least : (time : List (ℕ × ℕ)) → IsTime time
      → All (λ (p : ℕ × ℕ). least_tick time ≤ p.0) time
  pub opened : (pairs : List (ℕ × ℕ)) (k : ℕ) (p : ℕ × ℕ) → slice_get pairs k ≡ Some p
      → is_closed pairs ≡ false

-- the floor is at most what it rounds and the ceiling at least, each by less than one unit
pub record RoundLaws : Type 0 where
  pub down : (q x : ℕ) → floor_by q x * q ≤ x
  pub up : (q x : ℕ) → 1 ≤ q → x ≤ ceiling_by q x * q
  pub order : (q x y : ℕ) → 1 ≤ q → x ≤ y → floor_by q x ≤ ceiling_by q y
  pub gap : (q x y g : ℕ) → 1 ≤ q → y ≤ x + q * g
      → ceiling_by q y ≤ floor_by q x + (g + 1)
  pub whole : (q x m : ℕ) → 1 ≤ q → x ≤ q * m → (floor_by q x ≤ m) × (ceiling_by q x ≤ m)

-- what the tree of a journey scores: at the destination all, elsewhere what its arc makes of its
-- children, time by time
pub record ScoreLaws : Type 0 where
  pub arrived : (net : Net) (dest i t : ℕ) (tree : Tree) → i ≡ dest
      → score net dest i t tree ≡ net.scale ^ t
  pub stopped : (net : Net) (dest i t : ℕ) → i ≢ dest → score net dest i t stop ≡ 0
  pub taken : (net : Net) (dest i t e : ℕ) (arc : Arc) (trees : Trees) → i ≢ dest
      → arc_at net e ≡ Some arc
      → score net dest i t (go e trees) ≡ scores net dest arc.head t arc.time trees
  pub inside : (net : Net) (dest j t : ℕ) (p : ℕ × ℕ) (ps : List (ℕ × ℕ)) (child : Tree)
      (rest : Trees) → p.0 ≤ t
      → scores net dest j t (p ∷ ps) (tree_then child rest)
      ≡ p.1 * net.scale ^ (p.0 - 1) * score net dest j (t - p.0) child
      + scores net dest j t ps rest
  pub outside : (net : Net) (dest j t : ℕ) (p : ℕ × ℕ) (ps : List (ℕ × ℕ)) (child : Tree)
      (rest : Trees) → t < p.0
      → scores net dest j t (p ∷ ps) (tree_then child rest) ≡ scores net dest j t ps rest
  pub none : (net : Net) (dest j t : ℕ) (trees : Trees) → scores net dest j t [] trees ≡ 0

-- How a bound of what a tree scores goes over the pairs of a time, where q is the scale, T its
-- power at the budget, A that before a pair's tick, B that of what the tick leaves, and w one
-- whole: one pair more, of mass m, with the score `score` and the value v of its child, and at
-- last from the sum to the value of the node
pub record PairLaws : Type 0 where
  pub parts : (q s t : ℕ) → 1 ≤ s → s ≤ t → q ^ t ≡ q ^ (s - 1) * q * q ^ (t - s)
  pub above : (w m q A B T score v sum scores : ℕ) → T ≡ A * q * B → w * score ≤ v * B
      → w * scores * q ≤ sum * T → w * (m * A * score + scores) * q ≤ (m * v + sum) * T
  pub below : (w m q A B T score v sum scores : ℕ) → T ≡ A * q * B → v * B ≤ w * score
      → sum * T ≤ w * scores * q → (m * v + sum) * T ≤ w * (m * A * score + scores) * q
  pub node_above : (w q scores sum v T : ℕ) → 1 ≤ q → w * scores * q ≤ sum * T → sum ≤ v * q
      → w * scores ≤ v * T
  pub node_below : (w q scores sum v T : ℕ) → 1 ≤ q → sum * T ≤ w * scores * q → v * q ≤ sum
      → v * T ≤ w * scores

-- lists by number
pub record ListLaws : Type 0 where
  pub count : (f : ℕ → ℕ) (n : ℕ) → length (listed f n) ≡ n
  pub entry : (f : ℕ → ℕ) (n i other : ℕ) → 1 ≤ i → i ≤ n
      → slice_index_or (listed f n) (i - 1) other ≡ f i
  pub agree : (f g : ℕ → ℕ) (n : ℕ) → ((i : ℕ) → 1 ≤ i → i ≤ n → f i ≡ g i)
      → listed f n ≡ listed g n
  pub within : (f : ℕ → ℕ) (n most : ℕ) → ((i : ℕ) → f i ≤ most)
      → All (λ x. x ≤ most) (listed f n)
  pub items : (items : List ℕ) (f : ℕ → ℕ) (n : ℕ) → length items ≡ n
      → ((i : ℕ) → 1 ≤ i → i ≤ n → slice_index_or items (i - 1) 0 ≡ f i)
      → items ≡ listed f n
