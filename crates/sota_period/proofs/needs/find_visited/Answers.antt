use Rattle.std.proofs.Common.{ℕ, ◌⊎◌, ◌≡◌, ◌≢◌, ◌+◌, ◌-◌, ◌≤◌, List, [], ◌∷◌, ◌++◌, length, get_or, sym, ◌∙◌, ap, subst, arith, inl, inr}
use Rattle.std.specs.List.{All}
use Rattle.std.proofs.lemmas.List.Elements.{All-push}
use Rattle.sota_period.specs.Needs.{node_need}
use Rattle.sota_period.proofs.Scales.{ne-apart, ne-same}
use Rattle.sota_period.proofs.Soonest.{Found, visited-more, visited-same}
use Rattle.sota_period.proofs.needs.find_visited.Goals as goal
use Rattle.sota_period.proofs.needs.find_visited.Goals.{then-ne+then-needs-index-gt0+in_ok-push, else-ne, else-ne-via-then-ne+else-needs-index-gt0, else-ne-via-else-ne}

pub loop-index-preserved : goal.loop-index-preserved
loop-index-preserved c =
    let needs : List ℕ = c.args.needs.now in
    let dest : ℕ = c.args.dest in
    let k : ℕ = c.loop-index.index in
    let old : List ℕ = c.loop-index.nodes.items in
    let Only : ℕ → Type 0 = λ i. (1 ≤ i) × (i ≤ length needs) × (i ≢ dest) in
    let place : k ≡ k + 1 - 1 = omega arith in
    elim c.if-ne.branch [
      | then-ne+then-needs-index-gt0+in_ok-push w ↦
          let new : c.if-ne.nodes.items ≡ old ++ (k + 1) ∷ [] = ap (λ v. v.items) w.nodes-is ∙ w.in_ok-push.ensures.items in
          let off : k + 1 ≢ dest = λ same. ne-apart (k + 1) dest (sym c.ne.ensures ∙ w.if-ne.true) same in
          record {
            all = subst (λ (xs : List ℕ). (i : ℕ) → 1 ≤ i → i ≤ k + 1 → i ≢ dest → 1 ≤ node_need needs i → Found xs i) (sym new) (visited-more needs old dest k c.loop-index.invariant.all);
            only = subst (λ (xs : List ℕ). All Only xs) (sym new) (All-push Only old (k + 1) c.loop-index.invariant.only (omega arith, omega (arith, c.loop-index-test.true), off));
          }
      | else-ne w ↦
          let new : c.if-ne.nodes.items ≡ old = ap (λ v. v.items) w.nodes-is in
          let none : (node_need needs (k + 1) ≡ 0) ⊎ (k + 1 ≡ dest) =
          elim w.else-ne.branch [
            | else-ne-via-then-ne+else-needs-index-gt0 w' ↦ inl (let same : get_or needs k 0 ≡ node_need needs (k + 1) = ap (λ (n : ℕ). get_or needs n 0) place in omega (arith, w'.if-needs-index-gt0.false, same))
            | else-ne-via-else-ne w' ↦ inr (ne-same (k + 1) dest (sym c.ne.ensures ∙ w'.if-ne.false))
          ] in
          record {
            all = subst (λ (xs : List ℕ). (i : ℕ) → 1 ≤ i → i ≤ k + 1 → i ≢ dest → 1 ≤ node_need needs i → Found xs i) (sym new) (visited-same needs old dest k c.loop-index.invariant.all none);
            only = subst (λ (xs : List ℕ). All Only xs) (sym new) c.loop-index.invariant.only;
          }
    ]
