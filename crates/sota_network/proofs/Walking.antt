-- Walks put together, and the closure of a region.
use Rattle.std.proofs.Common.{ℕ, ◌≡◌, ◌≢◌, ◌+◌, ◌-◌, ◌<◌, ◌≤◌, ◌⊎◌, inl, inr, true, false, not, ◌&&◌, ◌==◌, nat_le, refl, sym, ◌∙◌, arith, ⊎_elim, subst}
use Rattle.std.proofs.lemmas.Bool.{cases_eq, cases_Bool, eqb-false, ne_eqb, le-leb, leb-true, and_parts, not-true}
use Rattle.std.proofs.lemmas.Option.{slice_get_within, get_or_from_slice_get}
use Rattle.sota_hist.specs.Time.{is_closed, least_tick}
use Rattle.sota_network.specs.Network.{Net, IsNet, IsArc}
use Rattle.sota_network.specs.Walks.{Walk, empty, step}
use Rattle.sota_network.specs.Reach.{reaches, in_region}
use Rattle.sota_network.proofs.Recursion.{arc-valid}
use Rattle.sota_network.proofs.Below.{least-first, least-le, paired-open}
use Rattle.sota_network.proofs.Reaching.{reach-walk, walk-reaches}
use Rattle.sota_network.specs.Reads.{Reads}

-- one walk after another
pub walk-then : (net : Net) (dest : ℕ) {i j k n m : ℕ} → Walk net dest i j n → Walk net dest j k m → Walk net dest i k (n + m)
walk-then net dest {i} {j} {k} {m = m} empty second = subst (λ (p : ℕ). Walk net dest j k p) (let z : m ≡ 0 + m = omega arith in z) second
walk-then net dest {i} {j} {k} {m = m} (step {n = n} e arc number leaves passable rest) second =
    subst (λ (p : ℕ). Walk net dest arc.tail k p) (let z : least_tick arc.time + (n + m) ≡ least_tick arc.time + n + m = omega arith in z)
    (step {n = n + m} e arc number leaves passable (walk-then net dest rest second))

module _ (net : Net) (valid : IsNet net) (i t j u : ℕ) (reads : Reads net i t j u) where
  pub reads-open : is_closed reads.arc.time ≡ false
  reads-open = paired-open reads.arc.time reads.index reads.pair reads.is_pair

  pub reads-first : least_tick reads.arc.time ≤ reads.pair.0
  reads-first =
      let is : IsArc net reads.arc = arc-valid net valid reads.number reads.arc reads.is_arc in
      let within = slice_get_within reads.arc.time reads.index reads.pair reads.is_pair in
      let at = get_or_from_slice_get reads.arc.time reads.index reads.pair reads.pair reads.is_pair in
      subst (λ (p : ℕ × ℕ). least_tick reads.arc.time ≤ p.0) at (least-first 0 reads.arc.time is.time reads.index reads.pair within)

  pub reads-less : u < t
  reads-less =
      let is : IsArc net reads.arc = arc-valid net valid reads.number reads.arc reads.is_arc in
      let within = slice_get_within reads.arc.time reads.index reads.pair reads.is_pair in
      let at = get_or_from_slice_get reads.arc.time reads.index reads.pair reads.pair reads.is_pair in
      let positive : 0 < reads.pair.0 = subst (λ (p : ℕ × ℕ). 0 < p.0) at (least-le 0 reads.arc.time is.time reads.index reads.pair within) in
      let le : reads.pair.0 ≤ t = reads.in_time in
      let is-u : u ≡ t - reads.pair.0 = reads.left in
      omega arith

  -- what the arc takes at least, and what is left, are within the budget
  pub reads-left : u + least_tick reads.arc.time ≤ t
  reads-left =
      let first : least_tick reads.arc.time ≤ reads.pair.0 = reads-first in
      let le : reads.pair.0 ≤ t = reads.in_time in
      let is-u : u ≡ t - reads.pair.0 = reads.left in
      omega arith

  -- a walk that came to the tail goes on to the head
  pub walk-on : (dest o n : ℕ) → i ≢ dest → Walk net dest o i n → Walk net dest o j (n + least_tick reads.arc.time)
  walk-on dest o n off walk =
      let leaves : reads.arc.tail ≢ dest = λ z. off (sym reads.tail ∙ z) in
      let one : Walk net dest reads.arc.tail reads.arc.head (least_tick reads.arc.time + 0) = step {n = 0} reads.number reads.arc reads.is_arc leaves reads-open empty in
      let onward : Walk net dest i j (least_tick reads.arc.time + 0) =
      subst (λ (x : ℕ). Walk net dest x j (least_tick reads.arc.time + 0)) reads.tail (subst (λ (x : ℕ). Walk net dest reads.arc.tail x (least_tick reads.arc.time + 0)) reads.head one) in
      subst (λ (p : ℕ). Walk net dest o j p) (let z : n + (least_tick reads.arc.time + 0) ≡ n + least_tick reads.arc.time = omega arith in z) (walk-then net dest walk onward)

  -- a walk from the head begins at the tail
  pub walk-from : (dest k n : ℕ) → i ≢ dest → Walk net dest j k n → Walk net dest i k (least_tick reads.arc.time + n)
  walk-from dest k n off walk =
      let leaves : reads.arc.tail ≢ dest = λ z. off (sym reads.tail ∙ z) in
      subst (λ (x : ℕ). Walk net dest x k (least_tick reads.arc.time + n)) reads.tail
      (step {n = n} reads.number reads.arc reads.is_arc leaves reads-open (subst (λ (x : ℕ). Walk net dest x k n) (sym reads.head) walk))

  -- a region reads the destination, the region, or below the least time of a node
  pub region-closed : (origin dest last : ℕ) → in_region net origin dest last i t ≡ true → (j ≡ dest) ⊎ ((in_region net origin dest last j u ≡ true) ⊎ (reaches net dest dest j u ≡ false))
  region-closed origin dest last inside =
      let one = and_parts (not (i == dest)) (nat_le t last && (reaches net dest dest i t && reaches net dest i origin (last - t))) inside in
      let two = and_parts (nat_le t last) (reaches net dest dest i t && reaches net dest i origin (last - t)) one.1 in
      let three = and_parts (reaches net dest dest i t) (reaches net dest i origin (last - t)) two.1 in
      let off : i ≢ dest = eqb-false i dest (not-true (i == dest) one.0) in
      let early : t ≤ last = leb-true t last two.0 in
      let came = reach-walk net valid dest i origin (last - t) three.1 in
      let room : came.0 ≤ last - t = came.2 in
      let left : u + least_tick reads.arc.time ≤ t = reads-left in
      let goes : reaches net dest j origin (last - u) ≡ true =
      walk-reaches net valid dest (walk-on dest origin came.0 off came.1) (last - u) (let z : came.0 + least_tick reads.arc.time ≤ last - u = omega arith in z) in
      let within : nat_le u last ≡ true = le-leb u last (let z : u ≤ last = omega arith in z) in
      ⊎_elim
      (λ (at : j ≡ dest). inl at)
      (λ (apart : j ≡ dest → ⊥).
      inr (⊎_elim
      (λ (yes : reaches net dest dest j u ≡ true). inl (rw (ne_eqb j dest apart, within, yes, goes) refl))
      (λ (no : reaches net dest dest j u ≡ false). inr no)
      (cases_Bool (reaches net dest dest j u))))
      (cases_eq j dest)
