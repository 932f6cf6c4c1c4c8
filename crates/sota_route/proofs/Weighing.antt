-- Sums over the values of a row from budget 0 on.
use Rattle.std.proofs.Common.{ℕ, ◌≡◌, ◌+◌, ◌-◌, ◌*◌, ◌<◌, ◌≤◌, List, slice_index, ◌∙◌, ap, subst, arith, ⊎_elim}
use Rattle.std.proofs.lemmas.Bool.{le-ltb, cases_lt}
use Rattle.std.proofs.Math.Nat.{mul-le-mul_right}
use Rattle.sota_units.specs.Rounding.{ONE}
use Rattle.sota_hist.specs.Time.{IsTime, total}
use Rattle.sota_network.specs.Grid.{weighed}
use Rattle.sota_network.specs.Laws.{SumLaws}
use Rattle.sota_sums.specs.Rows.{row_at}

-- a row from budget 0 on holds its values at their own budgets
row-plain : (row : List ℕ) (t : ℕ) → row_at row 0 t ≡ slice_index row t
row-plain row t =
    let same : t - 0 ≡ t = omega arith in
    rw (le-ltb t 0 (let low : 0 ≤ t = omega arith in low)) (ap (λ (n : ℕ). slice_index row n) same)

pub plain-sum : SumLaws → (row : List ℕ) (t : ℕ) (time : List (ℕ × ℕ)) → IsTime time
    → weighed (row_at row 0) t time ≡ weighed (λ u. slice_index row u) t time
plain-sum sums row t time rises =
    sums.same (row_at row 0) (λ u. slice_index row u) t time rises (λ u less. row-plain row u)

-- a sum of values of at most one whole is at most the scale times one whole
pub plain-small : SumLaws → (row : List ℕ) (t scale : ℕ) (time : List (ℕ × ℕ)) → IsTime time
    → total time ≤ scale → ((u : ℕ) → u < t → slice_index row u ≤ ONE)
    → weighed (λ u. slice_index row u) t time ≤ scale * ONE
plain-small sums row t scale time rises few whole =
    let most : weighed (λ u. slice_index row u) t time ≤ total time * ONE =
    sums.whole (λ u. slice_index row u) ONE t time rises whole in
    let less : total time * ONE ≤ scale * ONE = mul-le-mul_right ONE few in
    omega arith

-- one part more, from the last budget on: its sums read what no part has changed
pub taken-back : SumLaws → (round : ℕ → ℕ) (time : List (ℕ × ℕ)) → IsTime time
    → (old mid new : List ℕ) (from end count : ℕ) → from ≤ end
    → ((x : ℕ) → x < end - from → slice_index new (from + x)
    ≡ round (weighed (λ u. slice_index mid u) (from + x) time))
    → ((u : ℕ) → end ≤ u → slice_index new u ≡ slice_index mid u)
    → ((u : ℕ) → u < end → slice_index mid u ≡ slice_index old u)
    → ((u : ℕ) → end ≤ u → u < count → slice_index mid u
    ≡ round (weighed (λ x. slice_index old x) u time))
    → (u : ℕ) → from ≤ u → u < count
    → slice_index new u ≡ round (weighed (λ x. slice_index old x) u time)
taken-back sums round time rises old mid new from end count le part above before after u low high =
    ⊎_elim
    (λ (here : u < end).
    let place : from + (u - from) ≡ u = omega arith in
    let less : u - from < end - from = omega arith in
    let made : slice_index new u ≡ round (weighed (λ v. slice_index mid v) u time) =
    subst (λ (n : ℕ). slice_index new n ≡ round (weighed (λ v. slice_index mid v) n time)) place (part (u - from) less) in
    made ∙ ap round (sums.same (λ v. slice_index mid v) (λ v. slice_index old v) u time rises (λ v under. before v (omega arith))))
    (λ (done : end ≤ u). above u done ∙ after u done high)
    (cases_lt u end)
