-- What networks state of themselves, in the form in which it is used here.
use Rattle.std.specs.Prelude.{ℕ, ◌≡◌, ◌≢◌, ◌+◌, ◌≤◌, ◌⊎◌, ◌↔◌, true, false, List, None, Some}
use Rattle.sota_units.specs.Rounding.{floor_by, ceiling_by}
use Rattle.sota_hist.specs.Time.{IsTime, total, is_closed, least_tick}
use Rattle.sota_network.specs.Network.{Net, IsNet, IsArc, arc_at, replaced}
use Rattle.sota_network.specs.Grid.{lo, hi, choice, value_from, best_sum, plain_sum}
use Rattle.sota_network.specs.Grid.{best_of, choice_of, IsFirstBest}
use Rattle.sota_network.specs.Laws.{SumLaws, TickLaws, RoundLaws}
use Rattle.sota_network.specs.Walks.{Walk}
use Rattle.sota_network.specs.Reach.{reaches, in_region}
use Rattle.sota_network.specs.Reads.{Reads}
use Rattle.sota_network.specs.Region.{need}
use Rattle.sota_network.specs.declared.network.Arc.{Arc}

-- a valid network, with the laws of networks at it
pub record Lawful (net : Net) : Type 0 where
  pub valid : IsNet net
  pub arc : (e : ℕ) (arc : Arc) → arc_at net e ≡ Some arc → IsArc net arc
  pub edited : (e : ℕ) (time : List (ℕ × ℕ)) → IsTime time → total time ≤ net.scale
      → IsNet (replaced net e time)
  pub lower : (dest i t : ℕ)
      → lo net dest i t ≡ value_from floor_by net dest (lo net dest) i t
  pub upper : (dest i t : ℕ)
      → hi net dest i t ≡ value_from ceiling_by net dest (hi net dest) i t
  pub order : (dest i t : ℕ) → lo net dest i t ≤ hi net dest i t
  pub walk : (dest i j t : ℕ) → reaches net dest j i t ≡ true
      → (n : ℕ) × Walk net dest i j n × (n ≤ t)
  pub reach : (dest i j t n : ℕ) → Walk net dest i j n → n ≤ t → reaches net dest j i t ≡ true
  pub below : (dest i t : ℕ) → reaches net dest dest i t ≡ false → hi net dest i t ≡ 0
  pub lower_reads : (dest i t : ℕ) (table : ℕ → ℕ → ℕ) → i ≢ dest
      → ((j u : ℕ) → Reads net i t j u → table j u ≡ lo net dest j u)
      → lo net dest i t ≡ floor_by net.scale (best_sum net table i t)
  pub upper_reads : (dest i t : ℕ) (table : ℕ → ℕ → ℕ) → i ≢ dest
      → ((j u : ℕ) → Reads net i t j u → table j u ≡ hi net dest j u)
      → hi net dest i t ≡ ceiling_by net.scale (best_sum net table i t)
  pub choice_reads : (dest i t : ℕ) (table : ℕ → ℕ → ℕ) → i ≢ dest
      → ((j u : ℕ) → Reads net i t j u → table j u ≡ lo net dest j u)
      → choice net dest i t ≡ choice_of net.arcs (λ arc. plain_sum arc table t) i
  pub left : (i t j u : ℕ) (reads : Reads net i t j u)
      → (is_closed reads.arc.time ≡ false) × (u + least_tick reads.arc.time ≤ t)
  pub joined : (dest i j k n m : ℕ) → Walk net dest i j n → Walk net dest j k m
      → Walk net dest i k (n + m)
  pub unchosen : (worth : Arc → ℕ) (i : ℕ)
      → (choice_of net.arcs worth i ≡ None) ↔ (best_of net.arcs worth i ≡ 0)
  pub chosen : (worth : Arc → ℕ) (i e : ℕ) → choice_of net.arcs worth i ≡ Some e
      → IsFirstBest net worth i e
  pub first : (worth : Arc → ℕ) (i e : ℕ) → IsFirstBest net worth i e
      → choice_of net.arcs worth i ≡ Some e
  pub near : (other : Net) (worth worth_there : Arc → ℕ) (g i : ℕ)
      → ((e : ℕ) (arc : Arc) → arc_at net e ≡ Some arc → arc.tail ≡ i
      → (k : ℕ) × (there : Arc) × (arc_at other k ≡ Some there) × (there.tail ≡ i)
      × (worth arc ≤ worth_there there + g))
      → best_of net.arcs worth i ≤ best_of other.arcs worth_there i + g
  pub sums : SumLaws
  pub ticks : TickLaws
  pub rounding : RoundLaws
  pub region : (origin dest last i t j u : ℕ) → in_region net origin dest last i t ≡ true
      → Reads net i t j u
      → (j ≡ dest)
      ⊎ ((in_region net origin dest last j u ≡ true) ⊎ (reaches net dest dest j u ≡ false))
  pub dest_need : (origin dest last : ℕ) → need net origin dest last dest ≡ 0
