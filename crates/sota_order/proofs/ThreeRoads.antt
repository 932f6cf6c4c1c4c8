-- The needs of the test can be met.
use Rattle.std.proofs.Common.{ℕ, zero, suc, ◌≡◌, ◌≢◌, ◌+◌, ◌≤◌, max, [], ◌∷◌, Some, refl, sym, ap, subst, arith}
use Rattle.std.specs.List.{All}
use Rattle.std.proofs.lemmas.List.Elements.{All-nil, All-cons}
use Rattle.sota_hist.specs.Time.{least_tick}
use Rattle.sota_network.specs.Network.{Net, arc_at}
use Rattle.sota_network.specs.declared.network.Arc.{Arc}
use Rattle.sota_kept.specs.Ticks.{END_LIMIT}
use Rattle.sota_order.specs.Orders.{OrderView, CanBeMet, order_end, need_at}

abbrev pub three : Net
three = record {
  nodes = 3;
  scale = 1;
  arcs =
      record { tail = 1; head = 2; time = (1, 1) ∷ [] }
      ∷ record { tail = 2; head = 3; time = (1, 1) ∷ [] }
      ∷ record { tail = 1; head = 3; time = (3, 1) ∷ [] }
      ∷ [];
}

abbrev pub asked : OrderView
asked = record { dest = 3; fronts = 0 ∷ 0 ∷ 0 ∷ []; bases = 2 ∷ 1 ∷ 0 ∷ []; needs = 4 ∷ 3 ∷ 0 ∷ [] }

the : {x y : Arc} → Some x ≡ Some y → x ≡ y
the h = cc

abbrev Suffices : Arc → Type 0
Suffices arc = need_at asked arc.tail ≤ max (order_end asked arc.head) (need_at asked arc.head) + least_tick arc.time

-- only the first road leads elsewhere than to the destination
heads : (e : ℕ) (arc : Arc) → arc_at three e ≡ Some arc → arc.head ≢ 3 → Suffices arc
heads zero arc at apart = cc
heads (suc zero) arc at apart = subst Suffices (the at) (let z : 4 ≤ 4 = omega arith in z)
heads (suc (suc zero)) arc at apart = absurd (apart (sym (ap (λ (x : Arc). x.head) (the at))))
heads (suc (suc (suc zero))) arc at apart = absurd (apart (sym (ap (λ (x : Arc). x.head) (the at))))
heads (suc (suc (suc (suc k)))) arc at apart = cc

few : (a b c : ℕ) → a ≤ END_LIMIT → b ≤ END_LIMIT → c ≤ END_LIMIT → All (λ n. n ≤ END_LIMIT) (a ∷ b ∷ c ∷ [])
few a b c one two three =
    All-cons (λ n. n ≤ END_LIMIT) a (b ∷ c ∷ []) one
    (All-cons (λ n. n ≤ END_LIMIT) b (c ∷ []) two
    (All-cons (λ n. n ≤ END_LIMIT) c [] three (All-nil (λ n. n ≤ END_LIMIT))))

pub can : CanBeMet three asked
can = record {
  nodes = (refl, refl, refl);
  limits = (few 0 0 0 (omega arith) (omega arith) (omega arith), few 2 1 0 (omega arith) (omega arith) (omega arith), few 4 3 0 (omega arith) (omega arith) (omega arith));
  dest = refl;
  heads = λ e arc at off waits opened apart. heads e arc at apart;
}
