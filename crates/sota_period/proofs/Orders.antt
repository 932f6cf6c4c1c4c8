-- One and two periods that follow one another.
use Rattle.std.proofs.Common.{ℕ, zero, suc, ◌+◌, ◌<◌, ◌≤◌, [], ◌∷◌, refl, arith}
use Rattle.std.proofs.lemmas.List.Elements.{All-cons}
use Rattle.sota_network.specs.Network.{Net}
use Rattle.sota_period.specs.Periods.{ArePeriodsInOrder, HasRoadsOf, start_at}

pub one_in_order : (net : Net) → ArePeriodsInOrder ((0, net) ∷ [])
one_in_order net = record {
  some = omega arith;
  few = omega arith;
  first = refl;
  rising = λ k less. absurd (omega arith);
  roads = All-cons (λ (p : ℕ × Net). HasRoadsOf net p.1) (0, net) [] (record { nodes = refl; ends = refl }) (λ k d less. absurd (omega arith));
}

rises_once : (net other : Net) (start : ℕ) → 1 ≤ start → (k : ℕ) → k + 1 < 2 → start_at ((0, net) ∷ (start, other) ∷ []) k < start_at ((0, net) ∷ (start, other) ∷ []) (k + 1)
rises_once net other start late zero less = late
rises_once net other start late (suc k) less = absurd (omega arith)

pub two_in_order : (net other : Net) (start : ℕ) → 1 ≤ start → HasRoadsOf net other → ArePeriodsInOrder ((0, net) ∷ (start, other) ∷ [])
two_in_order net other start late roads = record {
  some = omega arith;
  few = omega arith;
  first = refl;
  rising = rises_once net other start late;
  roads = All-cons (λ (p : ℕ × Net). HasRoadsOf net p.1) (0, net) ((start, other) ∷ []) (record { nodes = refl; ends = refl })
      (All-cons (λ (p : ℕ × Net). HasRoadsOf net p.1) (start, other) [] roads (λ k d less. absurd (omega arith)));
}
