use Rattle.std.proofs.Common.{◌≡◌, ℕ, ◌<◌, ◌≤◌, length, slice_index, ◌∙◌, subst, ap, ⊎_elim, arith}
use Rattle.std.proofs.lemmas.Bool.{cases_lt}
use Rattle.std.proofs.lemmas.List.{get_or_default, get_or_past}
use Rattle.sota_online.specs.Summer.{IsPut}
use Rattle.sota_online.proofs.Putting.{put-none, put-next}
use Rattle.sota_online.proofs.values.put.Goals as goal

pub loop-k-init : goal.loop-k-init
loop-k-init c = record {
  put = put-none c.args.into.now c.args.at (λ (k : ℕ). slice_index c.args.values.now k);
  small = λ k none. absurd (omega arith);
}

pub loop-k-preserved : goal.loop-k-preserved
loop-k-preserved c =
    let v : ℕ = c.index-values-k.result in
    let reads : v ≡ slice_index c.args.values.now c.loop-k.k = c.index-values-k.is ∙ get_or_default c.args.values.now c.loop-k.k v 0 (omega arith) in
    record {
      put = put-next c.args.into.now c.loop-k.into c.args.at c.loop-k.k c.get.result (λ (k : ℕ). slice_index c.args.values.now k) c.loop-k.invariant.put (omega arith) (c.get.ensures.value ∙ reads);
      small = λ k below.
          ⊎_elim (λ (before : k < c.loop-k.k). c.loop-k.invariant.small k before)
          (λ (last : c.loop-k.k ≤ k).
          let here : k ≡ c.loop-k.k = omega arith in
          omega (arith, reads, c.get.ensures.within, ap (λ (j : ℕ). slice_index c.args.values.now j) here))
          (cases_lt k c.loop-k.k);
    }

pub returns-clause-put : goal.returns-clause-put
returns-clause-put c =
    subst (λ (n : ℕ). IsPut c.args.into.now c.loop-k.into c.args.at n (λ (k : ℕ). slice_index c.args.values.now k)) (omega arith) c.loop-k.invariant.put

pub returns-clause-small : goal.returns-clause-small
returns-clause-small c = λ k.
    ⊎_elim (λ (inside : k < length c.args.values.now). c.loop-k.invariant.small k (omega arith))
    (λ (past : length c.args.values.now ≤ k). rw (get_or_past c.args.values.now k 0 past) (omega arith))
    (cases_lt k (length c.args.values.now))
