-- The summers of an arc, and how long their kernel is.
use Rattle.std.proofs.Common.{ℕ, ◌≡◌, ◌+◌, ◌-◌, ◌≤◌, min, true, false, List, length, get_or, Option, None, Some, refl, arith, ⊎_elim}
use Rattle.std.specs.List.{All}
use Rattle.std.proofs.lemmas.Bool.{cases_Bool}
use Rattle.std.proofs.lemmas.List.FromFn.{length-map-range_with_len}
use Rattle.sota_hist.specs.Time.{least_tick, mass_at, span}
use Rattle.sota_network.specs.declared.network.Arc.{Arc}
use Rattle.sota_online.specs.Summer.{kernel_of}
use Rattle.sota_bounds.specs.Search.{time_at}
use Rattle.sota_bounds.specs.Cells.{pairs_by_need, pairs_by_lists}
use Rattle.sota_kept.specs.Ticks.{END_LIMIT}
use Rattle.sota_plan.specs.Runs.{is_broad_by, first_sums_by, kernel_places}

-- a kernel has no more places than there are values
kernel-few : (pairs : ℕ) (time : List (ℕ × ℕ)) → length (kernel_of pairs time) ≤ pairs
kernel-few pairs time = omega (arith, length-map-range_with_len (λ b. mass_at (least_tick time + b) time) 0 (min (span time) pairs))

pub places-few : (pairs start last : ℕ) (arc : Arc) → kernel_places (first_sums_by pairs start last arc) ≤ pairs
places-few pairs start last arc =
    ⊎_elim
    (λ (wide : is_broad_by pairs last arc ≡ true). rw wide (kernel-few pairs arc.time))
    (λ (thin : is_broad_by pairs last arc ≡ false). rw thin (omega arith))
    (cases_Bool (is_broad_by pairs last arc))

pub places-broad : (pairs start last : ℕ) (arc : Arc) → is_broad_by pairs last arc ≡ true → kernel_places (first_sums_by pairs start last arc) ≡ length (kernel_of pairs arc.time)
places-broad pairs start last arc wide = rw wide refl

-- and no node has more pairs than budgets
pub pairs-le : (time : Option ℕ) (needed : ℕ) → pairs_by_need time needed ≤ needed
pairs-le None needed = omega arith
pairs-le (Some to) needed = omega arith

pub pairs-within : (least : List (Option ℕ)) (needs : List ℕ) (i : ℕ) → All (λ n. n ≤ END_LIMIT) needs → 1 ≤ i → i ≤ length needs → pairs_by_lists least needs i ≤ END_LIMIT
pairs-within least needs i all low high = omega (arith, pairs-le (time_at least i) (get_or needs (i - 1) 0), all (i - 1) 0 (omega arith))
