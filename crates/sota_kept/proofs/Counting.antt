-- The least time as the first budget that is enough.
use Rattle.std.proofs.Common.{ℕ, zero, suc, ◌≡◌, ◌+◌, ◌<◌, ◌≤◌, min, Bool, true, false, nat_le, Option, None, Some, refl, sym, ◌∙◌, ap, arith, ⊎_elim}
use Rattle.std.proofs.lemmas.Bool.{cases_lt, cases_Bool, le-leb, lt-leb, true≢false}
use Rattle.sota_network.specs.Network.{Net}
use Rattle.sota_network.specs.Reach.{reaches}
use Rattle.sota_network.specs.Walks.{Walk, IsLeastTime}
use Rattle.sota_kept.specs.Ticks.{count_until, ticks_to, up_to}
use Rattle.sota_kept.specs.Laws.{Lawful}
use Rattle.sota_kept.proofs.Networks.{reach-walk, walk-reaches}

-- a test that goes on passing
abbrev Lasts : (ℕ → Bool) → Type 0
Lasts test = (t u : ℕ) → test t ≡ true → t ≤ u → test u ≡ true

pub record Counts (test : ℕ → Bool) (a n c : ℕ) : Type 0 where
  pub most : c ≤ n
  pub below : (t : ℕ) → a ≤ t → t < a + c → test t ≡ false
  pub above : (t : ℕ) → a + c ≤ t → t < a + n → test t ≡ true

counts : (test : ℕ → Bool) → Lasts test → (a n : ℕ) → Counts test a n (count_until test a n)
counts test lasts a zero = record { most = omega arith; below = λ t low high. absurd (omega arith); above = λ t low high. absurd (omega arith) }
counts test lasts a (suc n) =
    let rest = counts test lasts (a + 1) n in
    let c : ℕ = count_until test (a + 1) n in
    ⊎_elim
    (λ (passes : test a ≡ true).
    let none : count_until test a (suc n) ≡ 0 = rw (passes, count_until) refl in
    rw none (record { most = omega arith; below = λ t low high. absurd (omega arith); above = λ t low high. lasts a t passes (let z : a ≤ t = omega arith in z) }))
    (λ (not_yet : test a ≡ false).
    let one : count_until test a (suc n) ≡ suc c = rw (not_yet, count_until) refl in
    rw one
    (record {
      most = (let m : c ≤ n = rest.most in omega arith);
      below = λ t low high.
          ⊎_elim
          (λ (later : a < t). rest.below t (omega arith) (omega arith))
          (λ (here : t ≤ a). (let z : t ≡ a = omega arith in ap test z ∙ not_yet))
          (cases_lt a t);
      above = λ t low high. rest.above t (omega arith) (omega arith);
    }))
    (cases_Bool (test a))

module _ (net : Net) (valid : Lawful net) (dest j i : ℕ) where
  reaches-lasts : Lasts (reaches net dest j i)
  reaches-lasts t u sure le =
      let walk = reach-walk net valid dest j i t sure in
      walk-reaches net valid dest walk.1 u (let z : walk.0 ≤ u = omega (arith, walk.2, le) in z)

  pub ticks-count : (limit : ℕ) → Counts (reaches net dest j i) 0 limit (ticks_to net dest limit j i)
  unfolding ticks_to
  ticks-count limit = counts (reaches net dest j i) reaches-lasts 0 limit

  pub ticks-most : (limit : ℕ) → ticks_to net dest limit j i ≤ limit
  ticks-most limit = (ticks-count limit).most

  -- below the limit, reached from this number on
  pub ticks-reach : (limit t : ℕ) → t < limit → reaches net dest j i t ≡ nat_le (ticks_to net dest limit j i) t
  ticks-reach limit t less =
      let is = ticks-count limit in
      let c : ℕ = ticks_to net dest limit j i in
      ⊎_elim
      (λ (low : t < c). is.below t (let z : 0 ≤ t = omega arith in z) (let z : t < 0 + c = omega arith in z) ∙ sym (lt-leb c t low))
      (λ (high : c ≤ t). is.above t (let z : 0 + c ≤ t = omega arith in z) (let z : t < 0 + limit = omega arith in z) ∙ sym (le-leb c t high))
      (cases_lt t c)

  -- it is at most each walk's sum
  pub ticks-least : (limit n : ℕ) → Walk net dest i j n → n < ticks_to net dest limit j i → ⊥
  ticks-least limit n walk less =
      let is = ticks-count limit in
      let no : reaches net dest j i n ≡ false = is.below n (let z : 0 ≤ n = omega arith in z) (let z : n < 0 + ticks_to net dest limit j i = omega arith in z) in
      let yes : reaches net dest j i n ≡ true = walk-reaches net valid dest walk n (let z : n ≤ n = omega arith in z) in
      true≢false (sym yes ∙ no)

  -- where it is below the limit a walk has no greater sum
  pub ticks-walk : (limit : ℕ) → ticks_to net dest limit j i < limit → (n : ℕ) × Walk net dest i j n × (n ≤ ticks_to net dest limit j i)
  ticks-walk limit less =
      let is = ticks-count limit in
      let c : ℕ = ticks_to net dest limit j i in
      reach-walk net valid dest j i c (is.above c (let z : 0 + c ≤ c = omega arith in z) (let z : c < 0 + limit = omega arith in z))

  pub ticks-time : (limit : ℕ) (time : Option ℕ) → IsLeastTime net dest i j time → ticks_to net dest limit j i ≡ up_to limit time
  ticks-time limit None never =
      let c : ℕ = ticks_to net dest limit j i in
      let most : c ≤ limit = ticks-most limit in
      ⊎_elim
      (λ (less : c < limit). let walk = ticks-walk limit less in absurd (never walk.0 walk.1))
      (λ (all : limit ≤ c). (let z : c ≡ limit = omega arith in z))
      (cases_lt c limit)
  ticks-time limit (Some n) is =
      let c : ℕ = ticks_to net dest limit j i in
      let most : c ≤ limit = ticks-most limit in
      let low : c ≤ n = ⊎_elim (λ (bad : n < c). absurd (ticks-least limit n is.walk bad)) (λ (good : c ≤ n). good) (cases_lt n c) in
      ⊎_elim
      (λ (less : c < limit).
      let walk = ticks-walk limit less in
      let least : n ≤ walk.0 = is.least walk.0 walk.1 in
      let some : walk.0 ≤ c = walk.2 in
      (let z : c ≡ min n limit = omega arith in z))
      (λ (all : limit ≤ c). (let z : c ≡ min n limit = omega arith in z))
      (cases_lt c limit)
