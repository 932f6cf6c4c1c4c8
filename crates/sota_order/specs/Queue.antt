-- The nodes that are not known as far as they are needed, each once.
use Rattle.std.specs.Prelude.{ℕ, ◌≡◌, ◌<◌, ◌≤◌, ◌==◌, nat_lt, cond, List, length}
use Rattle.std.specs.List.{All, count_by}
use Rattle.std.specs.Ordering.{nat_cmp, ordering_then}
use Rattle.std.specs.declared.cmp.Ordering.{Ordering}
use Rattle.sota_order.specs.Orders.{OrderView, order_end, need_at}
use Rattle.sota_order.specs.declared.order.Turn.{Turn}

-- the turn at the lesser end is the greater one, and of two at one end that of the greater node
abbrev pub by_end : Turn → Turn → Ordering
by_end v w = ordering_then (nat_cmp w.end.0 v.end.0) (nat_cmp v.node w.node)

-- how many turns a node has
abbrev pub turns_of : ℕ → List Turn → ℕ
turns_of i turns = count_by (λ v. v.node == i) turns

-- the turn stands at its node's known end
pub record IsTurn (w : OrderView) (v : Turn) : Type 0 where
  pub node : (1 ≤ v.node) × (v.node ≤ length w.needs)
  pub end : v.end.0 ≡ order_end w v.node

-- one turn for each node up to the last that is not known as far as it is needed
pub record AreTurns (w : OrderView) (last : ℕ) (turns : List Turn) : Type 0 where
  pub each : All (IsTurn w) turns
  pub once : (i : ℕ) → 1 ≤ i → i ≤ last
      → turns_of i turns ≡ cond (nat_lt (order_end w i) (need_at w i)) 1 0
  pub later : (i : ℕ) → last < i → turns_of i turns ≡ 0
