-- One row of the grid from the rows below it.
use Rattle.std.proofs.Common.{ℕ, ◌≡◌, ◌-◌, ◌≤◌, List, get_or, None, refl, sym, ◌∙◌, ap, ◌==◌, if◌then◌else◌}
use Rattle.std.specs.List.{All}
use Rattle.std.proofs.lemmas.List.Elements.{All-weaker}
use Rattle.sota_units.specs.Rounding.{ONE}
use Rattle.sota_network.specs.Network.{Net, IsNet, IsArc}
use Rattle.sota_network.specs.Grid.{plain_sum, best_of, best_sum, choice_of, value_from, lo, hi, choice}
use Rattle.sota_network.specs.GridView.{in_table}
use Rattle.sota_network.specs.Bests.{table_sum, bests_of, no_best, rounded, settled, chosen}
use Rattle.sota_network.specs.declared.network.Arc.{Arc}
use Rattle.sota_network.specs.declared.plain.Best.{Best}
use Rattle.sota_network.specs.declared.plain.Rounding.{Rounding}
use Rattle.sota_network.specs.declared.plain.Rounding.TheVariants.{Down, Up}
use Rattle.sota_network.proofs.Listed.{listed-at}
use Rattle.sota_network.proofs.Sums.{weighed-agree}
use Rattle.sota_network.proofs.Best.{best-agree, choice-agree}
use Rattle.sota_network.proofs.Recursion.{lo-is, hi-is}
use Rattle.sota_network.proofs.Tables.{Filled}

module _ (net : Net) (valid : IsNet net) (dest t : ℕ) (values : List ℕ) where
  abbrev bests : List Best
  bests = bests_of net.nodes net.arcs (table_sum values net.nodes t)

  -- the sums over a filled table are those over the values themselves
  sums-agree : (f : ℕ → ℕ → ℕ) → Filled 0 values net.nodes t f → All (λ (a : Arc). table_sum values net.nodes t a ≡ plain_sum a f t) net.arcs
  sums-agree f filled =
      All-weaker (IsArc net) (λ (a : Arc). table_sum values net.nodes t a ≡ plain_sum a f t)
      (λ a v. weighed-agree (in_table values net.nodes a.head) (f a.head) t 0 (λ u less. filled.entry a.head u v.head.0 v.head.1 less) a.time v.time)
      net.arcs valid.arcs

  entry-is : (f : ℕ → ℕ → ℕ) → Filled 0 values net.nodes t f → (i : ℕ) → 1 ≤ i → i ≤ net.nodes
      → get_or bests (i - 1) no_best ≡ record { sum = best_sum net f i t; arc = choice_of net.arcs (λ (a : Arc). plain_sum a f t) i }
  entry-is f filled i low high =
      let P : Arc → ℕ = table_sum values net.nodes t in
      let R : Arc → ℕ = λ a. plain_sum a f t in
      let same : All (λ a. a.tail ≡ i → P a ≡ R a) net.arcs =
      All-weaker (λ a. P a ≡ R a) (λ a. a.tail ≡ i → P a ≡ R a) (λ a e tail. e) net.arcs (sums-agree f filled) in
      listed-at (λ j. record { sum = best_of net.arcs P j; arc = choice_of net.arcs P j }) net.nodes i no_best low high
      ∙ (rw (choice-agree P R i net.arcs same, best-agree P R i net.arcs same) refl)

  settled-is : (rounding : Rounding) (f : ℕ → ℕ → ℕ) → Filled 0 values net.nodes t f → (i : ℕ) → 1 ≤ i → i ≤ net.nodes
      → settled rounding net.scale dest bests i ≡ value_from (rounded rounding) net dest f i t
  settled-is rounding f filled i low high =
      ap (λ (b : Best). if i == dest then ONE else rounded rounding net.scale b.sum) (entry-is f filled i low high)

  pub lower-is : Filled 0 values net.nodes t (lo net dest) → (i : ℕ) → 1 ≤ i → i ≤ net.nodes → settled Down net.scale dest bests i ≡ lo net dest i t
  lower-is filled i low high = settled-is Down (lo net dest) filled i low high ∙ sym (lo-is net dest valid i t)

  pub upper-is : Filled 0 values net.nodes t (hi net dest) → (i : ℕ) → 1 ≤ i → i ≤ net.nodes → settled Up net.scale dest bests i ≡ hi net dest i t
  upper-is filled i low high = settled-is Up (hi net dest) filled i low high ∙ sym (hi-is net dest valid i t)

  pub chosen-is : Filled 0 values net.nodes t (lo net dest) → (i : ℕ) → 1 ≤ i → i ≤ net.nodes → chosen dest bests i ≡ choice net dest i t
  unfolding choice
  chosen-is filled i low high = ap (λ (b : Best). if i == dest then None else b.arc) (entry-is (lo net dest) filled i low high)
