-- What a heap of visits hands out first.
use Rattle.std.proofs.Common.{◌≡◌, ◌≤◌, false, List, [], ◌∷◌, refl, arith}
use Rattle.std.specs.List.{All}
use Rattle.std.specs.BinaryHeap.{IsUpperBound}
use Rattle.std.specs.Ordering.{nat_cmp, ordering_then, is_lt}
use Rattle.std.specs.declared.cmp.Ordering.{Ordering}
use Rattle.std.specs.declared.cmp.Ordering.TheVariants.{Less, Equal, Greater}
use Rattle.std.proofs.lemmas.List.Elements.{All-nil, All-cons}
use Rattle.std.proofs.lemmas.List.Sorted.{le_from_greatest}
use Rattle.sota_bounds.specs.Search.{by_time}
use Rattle.sota_bounds.specs.declared.search.Visit.{Visit}

-- what comes first decides unless it is `Equal`
first-decides : (a b : Ordering) → is_lt (ordering_then a b) ≡ false → is_lt a ≡ false
first-decides Less b e = e
first-decides Equal b e = refl
first-decides Greater b e = e

-- the greatest visit is the earliest
pub earliest : (visit : Visit) (queue : List Visit) → IsUpperBound by_time visit queue → All (λ (w : Visit). visit.time.0 ≤ w.time.0) queue
earliest visit [] greatest = All-nil (λ (w : Visit). visit.time.0 ≤ w.time.0)
earliest visit (w ∷ queue) greatest =
    let later : visit.time.0 ≤ w.time.0 =
    le_from_greatest w.time.0 (visit.time.0 ∷ []) (first-decides (nat_cmp w.time.0 visit.time.0) (nat_cmp visit.node w.node) greatest.0, tt) 0 0 (omega arith) in
    All-cons (λ (v : Visit). visit.time.0 ≤ v.time.0) w queue later (earliest visit queue greatest.1)
