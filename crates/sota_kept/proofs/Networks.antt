-- Networks by their laws.
use Rattle.std.proofs.Common.{ℕ, suc, ◌≡◌, ◌-◌, ◌<◌, ◌≤◌, true, false, List, [], ◌∷◌, set, slice_get, Some, ⊎_elim, refl, ◌∙◌, arith}
use Rattle.std.proofs.lemmas.Bool.{cases_Bool, eq-eqb, ne_eqb}
use Rattle.sota_units.specs.Rounding.{ONE, floor_by, ceiling_by}
use Rattle.sota_hist.specs.Time.{is_closed, least_tick}
use Rattle.sota_network.specs.Network.{Net, IsNet, IsArc, arc_at, replaced}
use Rattle.sota_network.specs.Grid.{best_sum, lo, hi}
use Rattle.sota_network.specs.Walks.{Walk}
use Rattle.sota_network.specs.Reach.{reaches}
use Rattle.sota_network.specs.declared.network.Arc.{Arc}
use Rattle.sota_kept.specs.Laws.{Lawful}

module _ (net : Net) (valid : Lawful net) where
  pub arc-valid : (e : ℕ) (a : Arc) → arc_at net e ≡ Some a → IsArc net a
  arc-valid e a at = valid.arc e a at

  -- ---- the grid
  pub lo-at_dest : (dest i t : ℕ) → i ≡ dest → lo net dest i t ≡ ONE
  lo-at_dest dest i t at = valid.lower dest i t ∙ (rw (eq-eqb i dest at) refl)

  pub lo-elsewhere : (dest i t : ℕ) → (i ≡ dest → ⊥) → lo net dest i t ≡ floor_by net.scale (best_sum net (lo net dest) i t)
  lo-elsewhere dest i t off = valid.lower dest i t ∙ (rw (ne_eqb i dest off) refl)

  pub hi-at_dest : (dest i t : ℕ) → i ≡ dest → hi net dest i t ≡ ONE
  hi-at_dest dest i t at = valid.upper dest i t ∙ (rw (eq-eqb i dest at) refl)

  pub hi-elsewhere : (dest i t : ℕ) → (i ≡ dest → ⊥) → hi net dest i t ≡ ceiling_by net.scale (best_sum net (hi net dest) i t)
  hi-elsewhere dest i t off = valid.upper dest i t ∙ (rw (ne_eqb i dest off) refl)

  -- ---- walks
  pub reach-walk : (dest j i t : ℕ) → reaches net dest j i t ≡ true → (n : ℕ) × Walk net dest i j n × (n ≤ t)
  reach-walk dest j i t sure = valid.walk dest i j t sure

  pub walk-reaches : (dest : ℕ) {i j n : ℕ} → Walk net dest i j n → (t : ℕ) → n ≤ t → reaches net dest j i t ≡ true
  walk-reaches dest {i} {j} {n} walk t le = valid.reach dest i j t n walk le

  -- below every walk's sum the upper value is 0
  pub zero-at : (dest i t : ℕ) → ((n : ℕ) → Walk net dest i dest n → t < n) → hi net dest i t ≡ 0
  zero-at dest i t far =
      ⊎_elim
      (λ (sure : reaches net dest dest i t ≡ true).
      let walk = reach-walk dest dest i t sure in
      let late : t < walk.0 = far walk.0 walk.1 in
      absurd (omega (arith, walk.2)))
      (λ (never : reaches net dest dest i t ≡ false). valid.below dest i t never)
      (cases_Bool (reaches net dest dest i t))

-- every valid network has these laws
abbrev pub NetworkLaws : Type 0
NetworkLaws = (net : Net) → IsNet net → Lawful net

-- ---- pairs
-- what is open has a first pair
pub open-first : (ps : List (ℕ × ℕ)) → is_closed ps ≡ false → (p : ℕ × ℕ) × (slice_get ps 0 ≡ Some p) × (p.0 ≡ least_tick ps)
open-first [] opened = cc
open-first (p ∷ ps) opened = (p, refl, refl)

-- ---- another time of an arc
abbrev pub timed : Arc → List (ℕ × ℕ) → Arc
timed arc time = record arc { time = time }

pub replaced-at : (net : Net) (k : ℕ) (a : Arc) (time : List (ℕ × ℕ)) → slice_get net.arcs k ≡ Some a → replaced net (suc k) time ≡ record net { arcs = set net.arcs k (timed a time) }
replaced-at net k a time at = rw (at, replaced) refl
