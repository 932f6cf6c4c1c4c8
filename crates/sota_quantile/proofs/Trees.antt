-- Decision trees and the two values of the grid.
use Rattle.std.proofs.Common.{ℕ, ◌+◌, ◌*◌, ◌^◌, ◌<◌, ◌≤◌, arith}
use Rattle.std.proofs.Math.Nat.{mul-le-mul_right, one-le-pow}
use Rattle.sota_units.specs.Rounding.{ONE}
use Rattle.sota_network.specs.Network.{Net}
use Rattle.sota_network.specs.Trees.{Tree, Encloses, score}
use Rattle.sota_quantile.specs.Needs.{ReachesWith}

-- no tree has more than the upper value
pub not-reached : (net : Net) → 1 ≤ net.scale → (dest i c t l h : ℕ) → Encloses net dest i t l h → h < c → ReachesWith net dest i c t → ⊥
not-reached net some dest i c t l h enclosed less reached =
    let power : ℕ = net.scale ^ t in
    let one : 1 ≤ power = one-le-pow t net.scale some in
    let above : c * power ≤ ONE * score net dest i t reached.0 = reached.2 in
    let below : ONE * score net dest i t reached.0 ≤ h * power = enclosed.0 reached.0 reached.1 in
    let more : (h + 1) * power ≤ c * power = mul-le-mul_right power (let z : h + 1 ≤ c = omega arith in z) in
    omega (arith, one, above, below, more)

-- some tree has the lower value
pub is-reached : (net : Net) (dest i c t l h : ℕ) → Encloses net dest i t l h → c ≤ l → ReachesWith net dest i c t
is-reached net dest i c t l h enclosed less =
    let tree : Tree = enclosed.1.0 in
    let power : ℕ = net.scale ^ t in
    let most : c * power ≤ l * power = mul-le-mul_right power less in
    let has : l * power ≤ ONE * score net dest i t tree = enclosed.1.1.1 in
    (tree, enclosed.1.1.0, (let z : c * power ≤ ONE * score net dest i t tree = omega (arith, most, has) in z))
