-- With one period the grid is that of its network.
use Rattle.std.proofs.Common.{ℕ, suc, ◌≡◌, ◌-◌, ◌≤◌, [], ◌∷◌, None, refl, sym, ◌∙◌, ap, arith, ◌==◌, if◌then◌else◌, Option}
use Rattle.std.proofs.lemmas.Bool.{le-leb}
use Rattle.sota_units.specs.Rounding.{floor_by, ceiling_by}
use Rattle.sota_network.specs.Network.{Net, IsNet}
use Rattle.sota_network.specs.Grid.{choice_of, plain_sum, value_from, lo, hi, choice}
use Rattle.sota_period.specs.Laws.{NetworkLaws}
use Rattle.sota_period.specs.Periods.{TimedNet, IsTimedNet, net_at, timed_net}
use Rattle.sota_period.specs.Grid.{timed_value, tlo, thi, tchoice}
use Rattle.sota_period.proofs.Grid.{value-only, choice-reads}

-- the only period holds always
pub one-at : (net : Net) (clock : ℕ) → net_at ((0, net) ∷ []) clock ≡ net
one-at net clock =
    let begun : 0 ≤ clock = omega arith in
    rw (le-leb 0 clock begun) refl

module _ (laws : NetworkLaws) (net : Net) (valid : IsNet net) (deadline dest : ℕ) where
  abbrev single : TimedNet
  single = timed_net ((0, net) ∷ []) deadline

  single-is : IsTimedNet single net.nodes
  single-is = record {
    valid = λ t. rw (one-at net (deadline - t)) valid;
    scale = λ t. rw (one-at net (deadline - t)) refl;
    nodes = λ t. rw (one-at net (deadline - t)) refl;
  }

  value-single : (round : ℕ → ℕ → ℕ) (f : ℕ → ℕ → ℕ) → ((i t : ℕ) → f i t ≡ value_from round net dest f i t)
      → (i t : ℕ) → timed_value round single dest i t ≡ f i t
  value-single round f recurs i t =
      sym (value-only laws single net.nodes single-is round dest f (suc t)
      (λ j u less. recurs j u ∙ ap (λ (n : Net). value_from round n dest f j u) (sym (one-at net (deadline - u))))
      (suc t) i t (omega arith) (omega arith))

  pub lower-single : ((i t : ℕ) → lo net dest i t ≡ value_from floor_by net dest (lo net dest) i t) → (i t : ℕ) → tlo single dest i t ≡ lo net dest i t
  lower-single recurs i t = value-single floor_by (lo net dest) recurs i t

  pub upper-single : ((i t : ℕ) → hi net dest i t ≡ value_from ceiling_by net dest (hi net dest) i t) → (i t : ℕ) → thi single dest i t ≡ hi net dest i t
  upper-single recurs i t = value-single ceiling_by (hi net dest) recurs i t

  pub choice-single : ((i t : ℕ) → lo net dest i t ≡ value_from floor_by net dest (lo net dest) i t) → (i t : ℕ) → tchoice single dest i t ≡ choice net dest i t
  unfolding choice
  choice-single recurs i t =
      let chosen : choice_of net.arcs (λ a. plain_sum a (tlo single dest) t) i ≡ choice_of net.arcs (λ a. plain_sum a (lo net dest) t) i =
      choice-reads laws net valid (tlo single dest) (lo net dest) i t (λ j u less. lower-single recurs j u) in
      ap (λ (n : Net). if i == dest then None else choice_of n.arcs (λ a. plain_sum a (tlo single dest) t) i) (one-at net (deadline - t))
      ∙ ap (λ (o : Option ℕ). if i == dest then None else o) chosen
