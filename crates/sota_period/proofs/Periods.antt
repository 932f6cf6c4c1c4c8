-- Which period holds, and what holds of all of them.
use Rattle.std.proofs.Common.{ℕ, zero, suc, ◌≡◌, ◌-◌, ◌<◌, ◌≤◌, nat_le, Bool, true, false, List, [], ◌∷◌, length, slice_index_or, refl, arith, ⊎_elim}
use Rattle.std.specs.List.{All, filter}
use Rattle.std.proofs.lemmas.Bool.{cases_Bool, cases_lt, le-leb, lt-leb}
use Rattle.std.proofs.lemmas.List.Elements.{All-head, All-tail, All-weaker}
use Rattle.sota_network.specs.Network.{Net, IsNet}
use Rattle.sota_period.specs.Periods.{IsTimedNet, ArePeriods, HasRoadsOf, no_net, last_net, net_at, first_net, timed_net, start_at}

module _ (P : Net → Type 0) (test : ℕ × Net → Bool) where
  -- what holds of all networks holds of the last that passes
  last-has : (net : Net) (ps : List (ℕ × Net)) → P net → All (λ p. P p.1) ps → P (last_net net (filter test ps))
  last-has net [] has all = has
  last-has net (p ∷ ps) has all =
      let rest : All (λ (q : ℕ × Net). P q.1) ps = All-tail (λ (q : ℕ × Net). P q.1) p ps all in
      ⊎_elim
      (λ (yes : test p ≡ true). rw yes (last-has p.1 ps (All-head (λ (q : ℕ × Net). P q.1) p ps all) rest))
      (λ (no : test p ≡ false). rw no (last-has net ps has rest))
      (cases_Bool (test p))

-- what holds of all networks holds of the one at a tick of the clock
pub net-has : (P : Net → Type 0) (periods : List (ℕ × Net)) (clock : ℕ) → 1 ≤ length periods → start_at periods 0 ≡ 0
    → All (λ p. P p.1) periods → P (net_at periods clock)
net-has P [] clock some first all = absurd (omega arith)
net-has P (p ∷ ps) clock some first all =
    let begun : p.0 ≤ clock = omega arith in
    rw (le-leb p.0 clock begun)
    (last-has P (λ q. nat_le q.0 clock) p.1 ps (All-head (λ (q : ℕ × Net). P q.1) p ps all) (All-tail (λ (q : ℕ × Net). P q.1) p ps all))

pub is-timed : (periods : List (ℕ × Net)) (deadline : ℕ) → ArePeriods periods → IsTimedNet (timed_net periods deadline) (first_net periods).nodes
is-timed periods deadline are = record {
  valid = λ t. net-has (λ n. IsNet n) periods (deadline - t) are.order.some are.order.first are.valid;
  scale = λ t. net-has (λ n. n.scale ≡ (first_net periods).scale) periods (deadline - t) are.order.some are.order.first are.scale;
  nodes = λ t. net-has (λ n. n.nodes ≡ (first_net periods).nodes) periods (deadline - t) are.order.some are.order.first
      (All-weaker (λ (p : ℕ × Net). HasRoadsOf (first_net periods) p.1) (λ (p : ℕ × Net). p.1.nodes ≡ (first_net periods).nodes) (λ p has. has.nodes) periods are.order.roads);
}

module _ (clock : ℕ) where
  abbrev begun : List (ℕ × Net) → List (ℕ × Net)
  begun periods = filter (λ p. nat_le p.0 clock) periods

  none-begun : (ps : List (ℕ × Net)) → ((m : ℕ) → m < length ps → clock < start_at ps m) → begun ps ≡ []
  none-begun [] late = refl
  none-begun (p ∷ ps) late =
      let first : clock < p.0 = late 0 (omega arith) in
      rw (lt-leb p.0 clock first) (none-begun ps (λ m h. late (suc m) (omega arith)))

  -- a period holds from its start until the next one starts
  pub holds : (net : Net) (periods : List (ℕ × Net)) (k : ℕ) → k < length periods → start_at periods k ≤ clock
      → ((m : ℕ) → k < m → m < length periods → clock < start_at periods m)
      → last_net net (begun periods) ≡ (slice_index_or periods k (0, no_net)).1
  holds net [] k within at late = absurd (omega arith)
  holds net (p ∷ ps) zero within at late =
      let here : p.0 ≤ clock = at in
      rw (le-leb p.0 clock here) (rw (none-begun ps (λ m h. late (suc m) (omega arith) (omega arith))) refl)
  holds net (p ∷ ps) (suc k) within at late =
      ⊎_elim
      (λ (out : clock < p.0). rw (lt-leb p.0 clock out) (holds net ps k (omega arith) at (λ m above h. late (suc m) (omega arith) (omega arith))))
      (λ (in_ : p.0 ≤ clock). rw (le-leb p.0 clock in_) (holds p.1 ps k (omega arith) at (λ m above h. late (suc m) (omega arith) (omega arith))))
      (cases_lt clock p.0)
