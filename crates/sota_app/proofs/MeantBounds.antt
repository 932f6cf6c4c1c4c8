-- The bounds and the choice of the grid mean what an answer says.
use Rattle.std.proofs.Common.{◌≤◌, ◌+◌, ◌*◌, ◌^◌, ℕ, Option, refl}
use Rattle.sota_units.specs.Rounding.{ONE}
use Rattle.sota_network.specs.Network.{Net, IsNet}
use Rattle.sota_network.specs.Grid.{lo, hi, choice}
use Rattle.sota_network.specs.Trees.{Encloses, Fits, score, follow}
use Rattle.sota_script.specs.declared.command.Ask3.{Ask3}
use Rattle.sota_app.specs.Meaning.{IsMeant}

-- what is so on every network
abbrev pub OnNetworks : (Net → ℕ → ℕ → ℕ → Type 0) → Type 0
OnNetworks P = (net : Net) (dest i t : ℕ) → IsNet net → P net dest i t

pub meant_bounds :
    OnNetworks (λ net dest i t. Encloses net dest i t (lo net dest i t) (hi net dest i t))
    → OnNetworks (λ net dest i t. lo net dest i t ≤ hi net dest i t)
    → OnNetworks (λ net dest i t. hi net dest i t ≤ lo net dest i t + 2 * t)
    → OnNetworks (λ net dest i t. hi net dest i t ≤ ONE)
    → ((net : Net) (rule : ℕ → ℕ → Option ℕ) (dest i t : ℕ) → IsNet net
    → Fits net i (follow net rule dest i t))
    → OnNetworks (λ net dest i t. lo net dest i t * net.scale ^ t
    ≤ ONE * score net dest i t (follow net (choice net dest) dest i t))
    → (net : Net) (ask : Ask3) → IsNet net
    → IsMeant net ask (lo net ask.dest ask.origin ask.budget)
    (hi net ask.dest ask.origin ask.budget) (choice net ask.dest ask.origin ask.budget)
meant_bounds encloses order gap whole fits attains net ask valid = record {
  encloses = encloses net ask.dest ask.origin ask.budget valid;
  ordered = order net ask.dest ask.origin ask.budget valid;
  gap = gap net ask.dest ask.origin ask.budget valid;
  whole = whole net ask.dest ask.origin ask.budget valid;
  first = refl;
  fits = fits net (choice net ask.dest) ask.dest ask.origin ask.budget valid;
  attains = attains net ask.dest ask.origin ask.budget valid;
}
