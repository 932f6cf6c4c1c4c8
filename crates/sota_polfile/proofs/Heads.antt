-- The five numbers of a head, which stand at the same places in both versions.
use Rattle.std.proofs.Common.{◌≡◌, ℕ, ◌^◌, ◌≤◌, List, [], ◌∷◌, ◌++◌, length, drop, refl, ap, ◌∙◌, arith}
use Rattle.std.specs.Int.{w32, to_be_bytes}
use Rattle.sota_polfile.specs.declared.head.PolicyHead.{PolicyHead}
use Rattle.sota_polfile.specs.Table.{IsHead}
use Rattle.sota_polfile.specs.Spelling.{spelled_numbers}
use Rattle.sota_polfile.specs.Places.{number_at, head_at}
use Rattle.sota_polfile.proofs.Numbers.{IsBytes, wide32, moved, number_again, number_takes}

abbrev pub head_numbers : PolicyHead → List ℕ
head_numbers head = spelled_numbers (head.nodes ∷ head.dest ∷ head.origin ∷ head.budget ∷ head.scale ∷ [])

-- numbers that were spelled are the head's
pub numbers_again : (bytes rest : List ℕ) (head : PolicyHead) → IsHead head → drop 8 bytes ≡ head_numbers head ++ rest → head_at bytes ≡ head
numbers_again bytes rest head fits e =
    let nodes : number_at w32 bytes 8 ≡ head.nodes = number_again w32 (2 ^ 32) wide32 bytes (spelled_numbers (head.dest ∷ head.origin ∷ head.budget ∷ head.scale ∷ []) ++ rest) 8 head.nodes (omega (arith, fits.nodes.1)) e in
    let dest : number_at w32 bytes 12 ≡ head.dest = number_again w32 (2 ^ 32) wide32 bytes (spelled_numbers (head.origin ∷ head.budget ∷ head.scale ∷ []) ++ rest) 12 head.dest (omega (arith, fits.nodes.1, fits.dest.1)) (moved 8 4 bytes _ e) in
    let origin : number_at w32 bytes 16 ≡ head.origin = number_again w32 (2 ^ 32) wide32 bytes (spelled_numbers (head.budget ∷ head.scale ∷ []) ++ rest) 16 head.origin (omega (arith, fits.nodes.1, fits.origin.1)) (moved 8 8 bytes _ e) in
    let budget : number_at w32 bytes 20 ≡ head.budget = number_again w32 (2 ^ 32) wide32 bytes (spelled_numbers (head.scale ∷ []) ++ rest) 20 head.budget (omega (arith, fits.budget)) (moved 8 12 bytes _ e) in
    let scale : number_at w32 bytes 24 ≡ head.scale = number_again w32 (2 ^ 32) wide32 bytes rest 24 head.scale (omega (arith, fits.scale.1)) (moved 8 16 bytes _ e) in
    rw (nodes, dest, origin, budget, scale) refl

-- and what stands there spells the head that it says
pub numbers_take : (bytes : List ℕ) → IsBytes bytes → 28 ≤ length bytes → drop 8 bytes ≡ head_numbers (head_at bytes) ++ drop 28 bytes
numbers_take bytes fits long =
    let nodes : drop 8 bytes ≡ to_be_bytes w32 (number_at w32 bytes 8) ++ drop 12 bytes = number_takes w32 (2 ^ 32) wide32 bytes 8 fits (omega arith) in
    let dest : drop 12 bytes ≡ to_be_bytes w32 (number_at w32 bytes 12) ++ drop 16 bytes = number_takes w32 (2 ^ 32) wide32 bytes 12 fits (omega arith) in
    let origin : drop 16 bytes ≡ to_be_bytes w32 (number_at w32 bytes 16) ++ drop 20 bytes = number_takes w32 (2 ^ 32) wide32 bytes 16 fits (omega arith) in
    let budget : drop 20 bytes ≡ to_be_bytes w32 (number_at w32 bytes 20) ++ drop 24 bytes = number_takes w32 (2 ^ 32) wide32 bytes 20 fits (omega arith) in
    let scale : drop 24 bytes ≡ to_be_bytes w32 (number_at w32 bytes 24) ++ drop 28 bytes = number_takes w32 (2 ^ 32) wide32 bytes 24 fits (omega arith) in
    let from20 = budget ∙ ap (λ (t : List ℕ). to_be_bytes w32 (number_at w32 bytes 20) ++ t) scale in
    let from16 = origin ∙ ap (λ (t : List ℕ). to_be_bytes w32 (number_at w32 bytes 16) ++ t) from20 in
    let from12 = dest ∙ ap (λ (t : List ℕ). to_be_bytes w32 (number_at w32 bytes 12) ++ t) from16 in
    nodes ∙ ap (λ (t : List ℕ). to_be_bytes w32 (number_at w32 bytes 8) ++ t) from12
