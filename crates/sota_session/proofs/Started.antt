-- Tables of which nothing is kept yet.
use Rattle.std.proofs.Common.{ℕ, ◌≡◌, ◌-◌, ◌≤◌, List, length, get_or, Option, None, refl}
use Rattle.sota_network.specs.Numbers.{listed}
use Rattle.sota_kept.specs.Ticks.{END_LIMIT}
use Rattle.sota_kept.specs.States.{first_state}

-- what the network says of a list by its items
abbrev pub ItemsLaw : Type 0
ItemsLaw = (items : List ℕ) (f : ℕ → ℕ) (n : ℕ) → length items ≡ n → ((i : ℕ) → 1 ≤ i → i ≤ n → get_or items (i - 1) 0 ≡ f i) → items ≡ listed f n

pub first-state : ItemsLaw → (n : ℕ) (dest : Option ℕ) (fronts bases : List ℕ) → dest ≡ None → length fronts ≡ n → length bases ≡ n
    → ((i : ℕ) → 1 ≤ i → i ≤ n → get_or fronts (i - 1) 0 ≡ 0) → ((i : ℕ) → 1 ≤ i → i ≤ n → get_or bases (i - 1) 0 ≡ END_LIMIT)
    → record { dest = dest; fronts = fronts; bases = bases } ≡ first_state n
first-state items n dest fronts bases none long long_bases front base =
    rw (none, items fronts (λ i. 0) n long front, items bases (λ i. END_LIMIT) n long_bases base) refl
