-- The pairs within a budget, and how far their ticks reach.
use Rattle.std.proofs.Common.{ℕ, ◌≡◌, ◌+◌, ◌-◌, ◌<◌, ◌≤◌, List, [], ◌∷◌, length, get_or, refl, sym, ◌∙◌, ap, arith, nat_le}
use Rattle.std.proofs.lemmas.Bool.{lt-ltb, leb-true}
use Rattle.std.proofs.lemmas.List.Elements.{filter_passes}
use Rattle.sota_hist.specs.Time.{within, least_tick, greatest_tick, span}
use Rattle.sota_network.specs.Region.{NARROW, broad_at}
use Rattle.sota_network.specs.declared.network.Arc.{Arc}

first-tick : (ps : List (ℕ × ℕ)) (d : ℕ × ℕ) → 1 ≤ length ps → least_tick ps ≡ (get_or ps 0 d).0
first-tick [] d some = absurd (omega arith)
first-tick (q ∷ ps) d some = refl

least-le-greatest : (ps : List (ℕ × ℕ)) → least_tick ps ≤ greatest_tick ps
least-le-greatest [] = omega arith
least-le-greatest (p ∷ ps) = omega arith

-- what is read of the pairs within a budget: the first tick and the last
pub record IsSpan (budget first last : ℕ) (ps : List (ℕ × ℕ)) : Type 0 where
  pub order : first ≤ last
  pub within : last ≤ budget
  pub value : last - first + 1 ≡ span ps

-- the pairs that were read are those within the budget, and their last has the greatest tick
pub span-read : (time read : List (ℕ × ℕ)) (budget first last : ℕ) (p q : ℕ × ℕ) → read ≡ within budget time → 1 ≤ length read
    → (get_or read (length read - 1) q).0 ≡ greatest_tick read → first ≡ (get_or read 0 p).0 → last ≡ (get_or read (length read - 1) q).0 → IsSpan budget first last (within budget time)
span-read time read budget first last p q is some top at_first at_last =
    let least : least_tick read ≡ first = first-tick read p some ∙ sym at_first in
    let most : last ≡ greatest_tick read = at_last ∙ top in
    let inside : length (within budget time) - 1 < length (within budget time) = rw is at (let below : length read - 1 < length read = omega arith in below) in
    let at_end : last ≡ (get_or (within budget time) (length (within budget time) - 1) q).0 = rw is at at_last in
    let soon : last ≤ budget =
    leb-true last budget (ap (λ (n : ℕ). nat_le n budget) at_end ∙ filter_passes (λ (x : ℕ × ℕ). nat_le x.0 budget) time (length (within budget time) - 1) q inside) in
    record { order = omega (arith, least-le-greatest read, least, most); within = soon; value = rw (least, sym most) refl ∙ ap span is }

-- a broad arc
pub broad-value : (budget pairs : ℕ) (arc : Arc) (read : List (ℕ × ℕ)) → read ≡ within budget arc.time → 0 < pairs → NARROW < length read → broad_at budget pairs arc ≡ pairs + span (within budget arc.time)
broad-value budget pairs arc read is some many =
    let count : NARROW < length (within budget arc.time) = rw is at many in
    rw (lt-ltb 0 pairs some, lt-ltb NARROW (length (within budget arc.time)) count) refl
