-- What the next extent of a node is worth.
use Rattle.std.proofs.Common.{ℕ, ◌≡◌, ◌≢◌, ◌+◌, ◌-◌, ◌<◌, ◌≤◌, max, ◌==◌, true, false, List, [], ◌∷◌, length, Some, Result, Ok, Err, IsOk, OnOk, refl, sym, ◌∙◌, ap, arith, ⊎_elim, subst}
use Rattle.std.specs.List.Sorted.{IsPermutation}
use Rattle.std.specs.BinaryHeap.{IsUpperBound}
use Rattle.std.proofs.lemmas.Bool.{cases_lt, cases_Bool, eqb-false, true≢false}
use Rattle.std.proofs.lemmas.Option.{none-some}
use Rattle.std.proofs.lemmas.List.{length-set}
use Rattle.std.proofs.lemmas.List.Elements.{All-set}
use Rattle.sota_hist.specs.Time.{IsTime, is_closed, least_tick}
use Rattle.sota_network.specs.Network.{Net, IsNode, IsArc, arc_at}
use Rattle.sota_network.specs.declared.network.Arc.{Arc}
use Rattle.sota_order.specs.Orders.{OrderView, CanBeMet, IsReach, IsNext, order_end, need_at, with_front, bound_of}
use Rattle.sota_kept.specs.Ticks.{END_LIMIT}
use Rattle.sota_order.specs.Queue.{by_end, AreTurns}
use Rattle.sota_order.specs.declared.order.Turn.{Turn}
use Rattle.sota_order.proofs.Turning.{taken-turn, taken-needed, taken-least, front-rises, turns-met, turns-again}

-- each arc by its number
abbrev pub Arcs : Net → Type 0
Arcs net = (e : ℕ) (arc : Arc) → arc_at net e ≡ Some arc → IsArc net arc

least-positive : (ps : List (ℕ × ℕ)) → IsTime ps → is_closed ps ≡ false → 1 ≤ least_tick ps
least-positive [] r h = cc
least-positive (p ∷ ps) r h = r.0

-- an arc that bounds its tail is open, does not lead to the destination, and bounds by its head's known end
record Bounding (w : OrderView) (arc : Arc) (to : ℕ) : Type 0 where
  opened : is_closed arc.time ≡ false
  apart : arc.head ≢ w.dest
  value : to ≡ order_end w arc.head + least_tick arc.time

the-bound : {x y : ℕ} → Some x ≡ Some y → x ≡ y
the-bound h = cc

bounding : (w : OrderView) (arc : Arc) (to : ℕ) → bound_of w.dest w.fronts w.bases arc ≡ Some to → Bounding w arc to
bounding w arc to is =
    ⊎_elim
    (λ (at : (arc.head == w.dest) ≡ true). absurd (none-some to (rw at at is)))
    (λ (off : (arc.head == w.dest) ≡ false).
    ⊎_elim
    (λ (closed : is_closed arc.time ≡ true). absurd (none-some to (rw (off, closed) at is)))
    (λ (opened : is_closed arc.time ≡ false). record { opened = opened; apart = eqb-false arc.head w.dest off; value = sym (the-bound (rw (off, opened) at is)) })
    (cases_Bool (is_closed arc.time)))
    (cases_Bool (arc.head == w.dest))

module _ (net : Net) (arcs : Arcs net) (w : OrderView) (is : CanBeMet net w) (xs : List Turn) (are : AreTurns w (length w.needs) xs) (v : Turn) (ys : List Turn) (moved : IsPermutation xs (v ∷ ys)) where
  pub next-node : IsNode net v.node
  next-node =
      let turn = taken-turn w (length w.needs) xs are refl v ys moved in
      let long : length w.needs ≡ net.nodes = is.nodes.2 in
      let high : v.node ≤ length w.needs = turn.node.1 in
      (turn.node.0, omega arith)

  pub next-needed : order_end w v.node < need_at w v.node
  next-needed = taken-needed w (length w.needs) xs are refl v ys moved

  pub next-more : IsUpperBound by_end v xs → (to : ℕ) → IsReach net w v.node to → order_end w v.node < to
  next-more greatest to reach =
      let i : ℕ = v.node in
      let needed : order_end w i < need_at w i = next-needed in
      ⊎_elim
      (λ (at : to ≡ need_at w i). omega arith)
      (λ (some : (e : ℕ) × (arc : Arc) × (arc_at net e ≡ Some arc) × (arc.tail ≡ i) × (bound_of w.dest w.fronts w.bases arc ≡ Some to)).
      let arc : Arc = some.1 in
      let valid-arc : IsArc net arc = arcs some.0 arc some.2 in
      let bounds = bounding w arc to some.4 in
      let positive : 1 ≤ least_tick arc.time = least-positive arc.time valid-arc.time bounds.opened in
      let long : length w.needs ≡ net.nodes = is.nodes.2 in
      let value : to ≡ order_end w arc.head + least_tick arc.time = bounds.value in
      ⊎_elim
      (λ (open_yet : order_end w arc.head < need_at w arc.head).
      let least : order_end w i ≤ order_end w arc.head = taken-least w (length w.needs) xs are refl v ys moved greatest arc.head valid-arc.head.0 (let h : arc.head ≤ net.nodes = valid-arc.head.1 in omega arith) open_yet in
      omega arith)
      (λ (met : need_at w arc.head ≤ order_end w arc.head).
      let off : arc.tail ≢ w.dest = λ z. (let none : need_at w i ≡ 0 = ap (need_at w) (sym some.3 ∙ z) ∙ is.dest in omega arith) in
      let waits : order_end w arc.tail < need_at w arc.tail = subst (λ (x : ℕ). order_end w x < need_at w x) (sym some.3) needed in
      let closed : need_at w arc.tail ≤ max (order_end w arc.head) (need_at w arc.head) + least_tick arc.time = is.heads some.0 arc some.2 off waits bounds.opened bounds.apart in
      let closed' : need_at w i ≤ max (order_end w arc.head) (need_at w arc.head) + least_tick arc.time = subst (λ (x : ℕ). need_at w x ≤ max (order_end w arc.head) (need_at w arc.head) + least_tick arc.time) some.3 closed in
      omega arith)
      (cases_lt (order_end w arc.head) (need_at w arc.head)))
      reach.attained

  need-limit : need_at w v.node ≤ END_LIMIT
  need-limit =
      let node = next-node in
      let long : length w.needs ≡ net.nodes = is.nodes.2 in
      is.limits.2 (v.node - 1) 0 (let low : 1 ≤ v.node = node.0 in let high : v.node ≤ net.nodes = node.1 in omega arith)

  pub next-can : (to : ℕ) → order_end w v.node < to → to ≤ need_at w v.node → CanBeMet net (with_front w v.node to)
  next-can to more within =
      let node = next-node in
      let inside : v.node ≤ length w.fronts = (let h : length w.fronts ≡ net.nodes = is.nodes.0 in let high : v.node ≤ net.nodes = node.1 in omega arith) in
      let rises : (j : ℕ) → 1 ≤ j → order_end w j ≤ order_end (with_front w v.node to) j = front-rises w (length w.needs) xs are refl v ys moved to more inside in
      let limit : to ≤ END_LIMIT = (let h : need_at w v.node ≤ END_LIMIT = need-limit in omega arith) in
      record {
        nodes = (length-set w.fronts (v.node - 1) to ∙ is.nodes.0, is.nodes.1, is.nodes.2);
        limits = (All-set (λ (n : ℕ). n ≤ END_LIMIT) w.fronts (v.node - 1) to limit is.limits.0, is.limits.1, is.limits.2);
        dest = is.dest;
        heads = λ e arc at off waits opened apart.
            let valid-arc : IsArc net arc = arcs e arc at in
            let head : order_end w arc.head ≤ order_end (with_front w v.node to) arc.head = rises arc.head valid-arc.head.0 in
            let tail : order_end w arc.tail ≤ order_end (with_front w v.node to) arc.tail = rises arc.tail valid-arc.tail.0 in
            let old : need_at w arc.tail ≤ max (order_end w arc.head) (need_at w arc.head) + least_tick arc.time = is.heads e arc at off (let h : order_end (with_front w v.node to) arc.tail < need_at w arc.tail = waits in omega arith) opened apart in
            (let z : need_at w arc.tail ≤ max (order_end (with_front w v.node to) arc.head) (need_at w arc.head) + least_tick arc.time = omega arith in z);
      }

  pub next-met : (to : ℕ) → order_end w v.node < to → need_at w v.node ≤ to → AreTurns (with_front w v.node to) (length w.needs) ys
  next-met to more enough =
      let node = next-node in
      let inside : v.node ≤ length w.fronts = (let h : length w.fronts ≡ net.nodes = is.nodes.0 in let high : v.node ≤ net.nodes = node.1 in omega arith) in
      turns-met w (length w.needs) xs are refl v ys moved to more inside enough

  pub next-again : (to : ℕ) → order_end w v.node < to → (zs : List Turn) (u : Turn) → u.node ≡ v.node → u.end.0 ≡ to → IsPermutation (u ∷ ys) zs → to < need_at w v.node → AreTurns (with_front w v.node to) (length w.needs) zs
  next-again to more zs u same end put less =
      let node = next-node in
      let inside : v.node ≤ length w.fronts = (let h : length w.fronts ≡ net.nodes = is.nodes.0 in let high : v.node ≤ net.nodes = node.1 in omega arith) in
      turns-again w (length w.needs) xs are refl v ys moved to more inside zs u same end put less

  pub next-is : IsUpperBound by_end v xs → (to : ℕ) → IsReach net w v.node to → IsNext net w (record { node = v.node; from = v.end.0; to = to })
  next-is greatest to reach =
      let turn = taken-turn w (length w.needs) xs are refl v ys moved in
      let more : order_end w v.node < to = next-more greatest to reach in
      let end : v.end.0 ≡ order_end w v.node = turn.end in
      record { node = next-node; needed = next-needed; from = end; reach = reach; some = omega arith }

-- the turn that was taken, and how far its node can be known next
pub record IsTaken (net : Net) (w : OrderView) (xs ys : List Turn) (v : Turn) (to : ℕ) : Type 0 where
  pub can : CanBeMet net w
  pub arcs : Arcs net
  pub moved : IsPermutation xs (v ∷ ys)
  pub greatest : IsUpperBound by_end v xs
  pub node : IsNode net v.node
  pub reach : IsReach net w v.node to
  pub more : order_end w v.node < to

-- what is said of an answer Ok, where it is that
pub ok-then : {X Y : Type 0} {P : Type 0} (r : Result X Y) → IsOk r → OnOk r P → P
ok-then (Ok x) is said = said
ok-then (Err y) is said = absurd (true≢false (sym is))
