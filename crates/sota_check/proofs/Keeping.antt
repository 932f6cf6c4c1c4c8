-- The rule of a policy that holds keeps up its values.
use Rattle.std.proofs.Common.{ℕ, ◌≡◌, ◌*◌, ◌<◌, ◌≤◌, Option, Some, None, inl, inr, refl, ◌∙◌, ap, arith, option_and_then}
use Rattle.std.proofs.lemmas.Bool.{eq-eqb, ne_eqb}
use Rattle.sota_units.specs.Rounding.{ONE}
use Rattle.sota_network.specs.Network.{Net, arc_at}
use Rattle.sota_network.specs.Grid.{plain_sum}
use Rattle.sota_network.specs.Sound.{Sound}
use Rattle.sota_network.specs.declared.network.Arc.{Arc}
use Rattle.sota_polfile.specs.declared.entry.PolicyEntry.{PolicyEntry}
use Rattle.sota_polfile.specs.declared.head.PolicyHead.{PolicyHead}
use Rattle.sota_check.specs.Certified.{Entries, value_by, value_or_zero, rule_by, arc_of, HoldsBy, IsCertifiedBy}
use Rattle.sota_check.proofs.Judged.{named}

module _ (dest : ℕ) (plan : Entries) (i t : ℕ) where
  pub value-dest : i ≡ dest → value_by dest plan i t ≡ ONE
  value-dest at = rw (eq-eqb i dest at) refl

  pub value-elsewhere : (i ≡ dest → ⊥) → (o : Option PolicyEntry) → plan i t ≡ o → value_by dest plan i t ≡ value_or_zero o
  value-elsewhere off o is = rw (ne_eqb i dest off) (ap value_or_zero is)

rule-is : (plan : Entries) (i t : ℕ) (entry : PolicyEntry) → plan i t ≡ Some entry → (entry.arc ≡ 0 → ⊥) → rule_by plan i t ≡ Some entry.arc
rule-is plan i t entry at some = ap (λ (o : Option PolicyEntry). option_and_then arc_of o) at ∙ (rw (ne_eqb entry.arc 0 some) refl)

module _ (net : Net) (head : PolicyHead) (plan : Entries) (c : IsCertifiedBy net head plan) where
  abbrev value : ℕ → ℕ → ℕ
  value i t = value_by head.dest plan i t

  Kept : ℕ → ℕ → Type 0
  Kept i t = (e : ℕ) × (arc : Arc) × (rule_by plan i t ≡ Some e) × (arc_at net e ≡ Some arc) × (arc.tail ≡ i) × (value i t * net.scale ≤ plain_sum arc value t)

  kept-by : (i t : ℕ) → (i ≡ head.dest → ⊥) → 0 < value i t → (entry : PolicyEntry) → plan i t ≡ Some entry → HoldsBy net value i t entry → Kept i t
  unfolding Kept
  kept-by i t off positive entry at (inl idle) = absurd (let is = value-elsewhere head.dest plan i t off (Some entry) at in omega (arith, is, idle.1))
  kept-by i t off positive entry at (inr worth) =
      let is : value i t ≡ entry.value = value-elsewhere head.dest plan i t off (Some entry) at in
      (entry.arc, worth.0, rule-is plan i t entry at (named net entry.arc worth.0 worth.1), worth.1, worth.2, rw is worth.3)

  kept : (i t : ℕ) → (i ≡ head.dest → ⊥) → 0 < value i t → (o : Option PolicyEntry) → plan i t ≡ o → Kept i t
  kept i t off positive None at = absurd (let is = value-elsewhere head.dest plan i t off None at in omega (arith, is))
  kept i t off positive (Some entry) at = kept-by i t off positive entry at (c.entries i t entry at)

  pub sound : Sound net head.dest (value_by head.dest plan) (rule_by plan)
  unfolding Kept
  sound = record {
    at_dest = λ t. omega (arith, value-dest head.dest plan head.dest t refl);
    elsewhere = λ i t off positive. kept i t off positive (plan i t) refl;
  }
