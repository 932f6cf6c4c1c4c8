-- Bytes that are handed over in pieces, where they are known.
use Rattle.std.proofs.Common.{◌≡◌, ℕ, ◌+◌, ◌-◌, ◌≤◌, Bool, true, false, if◌then◌else◌, List, ◌++◌, length, take, drop, Option, sym, ap, subst, ◌∙◌}
use Rattle.std.proofs.Common.{arith, length-drop, take-add, take_all}
use Rattle.std.proofs.lemmas.List.{take-append-le, take-take, length-take}
use Rattle.std.specs.Io.KnownBytes.{Appends, Consumes, Keeps}
use Rattle.std.proofs.KnownBytes.{Appends-nil, Appends-trans, Appends-kept, Consumes-trans}

-- the next bytes of a slice after those before them
pub take_next : (bytes : List ℕ) (done count : ℕ)
    → take (done + count) bytes ≡ take done bytes ++ take count (take (length bytes - done) (drop done bytes))
take_next bytes done count = take-add done count bytes
    ∙ ap (λ rest. take done bytes ++ take count rest)
    (sym (take_all (length bytes - done) (drop done bytes) (omega (arith, length-drop done bytes))))

pub appends_more : (a b c : Option (List ℕ)) (bytes : List ℕ) (done count : ℕ)
    → Appends a b (take done bytes)
    → Appends b c (take count (take (length bytes - done) (drop done bytes)))
    → Appends a c (take (done + count) bytes)
appends_more a b c bytes done count before step =
    subst (Appends a c) (sym (take_next bytes done count)) (Appends-trans a b c _ _ before step)

-- where a writer keeps what it holds, none of the piece was handed over
pub appends_none : (a b : Option (List ℕ)) (piece : List ℕ) → Keeps a b → Appends a b (take 0 piece)
appends_none a b piece keeps = Appends-kept a a b _ (Appends-nil a) keeps

-- bytes that were read into a list after those before them
pub consumes_more : (a b c : Option (List ℕ)) (xs ys : List ℕ) (done count : ℕ)
    → Consumes a b (take done xs) → take done ys ≡ take done xs
    → Consumes b c (take count (drop done ys)) → Consumes a c (take (done + count) ys)
consumes_more a b c xs ys done count before same step =
    subst (Consumes a c) (ap (λ front. front ++ take count (drop done ys)) (sym same) ∙ sym (take-add done count ys))
    (Consumes-trans a b c _ _ before step)

at_most : (n : ℕ) (xs : List ℕ) (done : ℕ) → done ≤ n → done ≤ length xs → done ≤ length (take n xs)
at_most n xs done below within = omega (arith, length-take n xs, below, within)

-- a resize keeps what stands before the old and the new end
pub resized_front : (grown : Bool) (xs ys rest : List ℕ) (done n : ℕ) → done ≤ n → done ≤ length xs
    → ys ≡ (if grown then take n xs ++ rest else xs) → take done ys ≡ take done xs
resized_front true xs ys rest done n below within is = ap (take done) is
    ∙ take-append-le done (take n xs) rest (at_most n xs done below within)
    ∙ take-take done n xs below
resized_front false xs ys rest done n below within is = ap (take done) is
