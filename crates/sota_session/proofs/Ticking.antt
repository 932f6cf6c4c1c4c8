-- Least times that an edit leaves as they are.
use Rattle.std.proofs.Common.{ℕ, zero, suc, ◌≡◌, ◌≤◌, List, [], ◌∷◌, slice_get, slice_set, Option, None, Some, refl, sym, ◌∙◌, arith}
use Rattle.std.proofs.lemmas.Bool.{le-ltb}
use Rattle.sota_hist.specs.Time.{IsTime, before, is_closed, least_tick, total}
use Rattle.sota_network.specs.Network.{Net, IsNet, replaced}
use Rattle.sota_network.specs.Walks.{IsLeastTime}
use Rattle.sota_network.specs.declared.network.Arc.{Arc}
use Rattle.sota_kept.specs.Edits.{IsEdit}
use Rattle.sota_bounds.specs.Search.{time_at}
use Rattle.sota_bounds.specs.Regions.{AreLeastTo}
use Rattle.sota_session.specs.Roads.{KeepsTicks}

none-before : (pairs : List (ℕ × ℕ)) → before 0 pairs ≡ []
none-before [] = refl
none-before (p ∷ pairs) = rw (le-ltb p.0 0 (omega arith)) (none-before pairs)

same-nodes : (net : Net) (number : ℕ) (time : List (ℕ × ℕ)) → (replaced net number time).nodes ≡ net.nodes
same-nodes net zero time = refl
same-nodes net (suc k) time =
    elim (slice_get net.arcs k) as (λ (found : Option Arc).
    (let next : Net = elim found as (λ other. Net) [
      | None ↦ net
      | Some arc ↦ record net { arcs = slice_set net.arcs k (record arc { time = time }) }
    ] in next).nodes ≡ net.nodes) [
      | None ↦ refl
      | Some arc ↦ refl
    ]

-- the law of edits that keep the tick at which an arc begins
abbrev pub SameTick : Net → ℕ → ℕ → List (ℕ × ℕ) → Type 0
SameTick net dest number time = (first i j : ℕ) (arc : Arc) (least : Option ℕ) → IsEdit net number arc first time
    → least_tick time ≡ least_tick arc.time → is_closed time ≡ is_closed arc.time → IsLeastTime net dest i j least → IsLeastTime (replaced net number time) dest i j least

pub still-least : (net : Net) (number : ℕ) (time : List (ℕ × ℕ)) (dest : ℕ) (times : List (Option ℕ)) → IsNet net → IsTime time → total time ≤ net.scale → KeepsTicks net number time
    → SameTick net dest number time → AreLeastTo net dest times → AreLeastTo (replaced net number time) dest times
still-least net number time dest times valid rises sums keeps law are =
    let edit : IsEdit net number keeps.edited 0 time = record {
      valid = valid;
      found = keeps.found;
      rises = rises;
      sums = sums;
      same = none-before keeps.edited.time ∙ sym (none-before time);
    } in
    record {
      nodes = are.nodes ∙ sym (same-nodes net number time);
      least = λ i node. law 0 i dest keeps.edited (time_at times i) edit keeps.least keeps.closed
          (are.least i (node.0, (let high : i ≤ net.nodes = omega (arith, node.1, same-nodes net number time) in high)));
      within = are.within;
    }
