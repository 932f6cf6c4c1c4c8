-- The pairs of a made time.
use Rattle.std.proofs.Common.{ℕ, zero, suc, ◌≡◌, ◌+◌, ◌-◌, ◌*◌, ◌/◌, ◌<◌, ◌≤◌, List, [], ◌∷◌, ◌++◌, length, refl, sym, ◌∙◌, ap, arith, append_assoc, mul-le-mul_left, div-mul-le_self}
use Rattle.std.proofs.lemmas.List.Sums.{sum_by-cons}
use Rattle.rand_pcg.specs.Lcg.{Lcg}
use Rattle.sota_words.specs.Drawn.{drawn}
use Rattle.sota_hist.specs.Time.{RisesFrom, total}
use Rattle.sota_make.specs.Made.{pairs_from}

-- a number that is drawn is below its bound
abbrev pub DrawsBelow : Type 0
DrawsBelow = (bound : ℕ) (words : Lcg) → 1 ≤ bound → (drawn bound words).0 < bound

-- twice an even share of two or more is at most all
twice-share : (rest n : ℕ) → 2 ≤ n → 2 * rest / n ≤ rest
twice-share rest n two =
    let q = 2 * rest / n in
    let under : q * n ≤ 2 * rest = div-mul-le_self (2 * rest) n in
    let over : q * 2 ≤ q * n = mul-le-mul_left q two in
    omega arith

extra-within : DrawsBelow → (rest n : ℕ) (words : Lcg) → 2 ≤ n → (drawn (2 * rest / n + 1) words).0 ≤ rest
extra-within below rest n words two =
    let h : (drawn (2 * rest / n + 1) words).0 < 2 * rest / n + 1 = below (2 * rest / n + 1) words (omega arith) in
    omega (arith, twice-share rest n two)

pub pairs-rise : (span floor tick rest : ℕ) (words : Lcg) → floor < tick → RisesFrom floor (pairs_from span tick rest words).0
unfolding pairs_from
pairs-rise zero floor tick rest words above = tt
pairs-rise (suc zero) floor tick rest words above = (above, omega arith, tt)
pairs-rise (suc (suc more)) floor tick rest words above =
    let extra = drawn (2 * rest / suc (suc more) + 1) words in
    (above, omega arith, pairs-rise (suc more) tick (tick + 1) (rest - extra.0) extra.1 (omega arith))

pub pairs-count : (span tick rest : ℕ) (words : Lcg) → length (pairs_from span tick rest words).0 ≡ span
unfolding pairs_from
pairs-count zero tick rest words = refl
pairs-count (suc zero) tick rest words = refl
pairs-count (suc (suc more)) tick rest words =
    let extra = drawn (2 * rest / suc (suc more) + 1) words in
    ap suc (pairs-count (suc more) (tick + 1) (rest - extra.0) extra.1)

pub pairs-total : DrawsBelow → (span tick rest : ℕ) (words : Lcg) → 1 ≤ span → total (pairs_from span tick rest words).0 ≡ span + rest
unfolding pairs_from
pairs-total below zero tick rest words some = absurd (omega arith)
pairs-total below (suc zero) tick rest words some = omega arith
pairs-total below (suc (suc more)) tick rest words some =
    let extra = drawn (2 * rest / suc (suc more) + 1) words in
    let first = sum_by-cons (λ (p : ℕ × ℕ). p.1) (tick, 1 + extra.0) (pairs_from (suc more) (tick + 1) (rest - extra.0) extra.1).0 in
    let within : extra.0 ≤ rest = extra-within below rest (suc (suc more)) words (omega arith) in
    let others : total (pairs_from (suc more) (tick + 1) (rest - extra.0) extra.1).0 ≡ suc more + (rest - extra.0) = pairs-total below (suc more) (tick + 1) (rest - extra.0) extra.1 (omega arith) in
    first ∙ (omega arith)

-- pairs after others
abbrev pub after : List (ℕ × ℕ) → List (ℕ × ℕ) × Lcg → List (ℕ × ℕ) × Lcg
after pairs others = (pairs ++ others.0, others.1)

pub pairs-step : (pairs : List (ℕ × ℕ)) (n tick rest : ℕ) (words : Lcg) (extra : ℕ) (left : Lcg) → 2 ≤ n → (extra, left) ≡ drawn (2 * rest / n + 1) words
    → after pairs (pairs_from n tick rest words) ≡ after (pairs ++ (tick, 1 + extra) ∷ []) (pairs_from (n - 1) (tick + 1) (rest - extra) left)
unfolding pairs_from
pairs-step pairs zero tick rest words extra left two is = absurd (omega arith)
pairs-step pairs (suc zero) tick rest words extra left two is = absurd (omega arith)
pairs-step pairs (suc (suc more)) tick rest words extra left two is =
    let others : ℕ × Lcg → List (ℕ × ℕ) × Lcg = λ d. pairs_from (suc more) (tick + 1) (rest - d.0) d.1 in
    let step : ℕ × Lcg → List (ℕ × ℕ) × Lcg = λ d. (pairs ++ (tick, 1 + d.0) ∷ (others d).0, (others d).1) in
    let less : suc (suc more) - 1 ≡ suc more = omega arith in
    rw less (ap step (sym is) ∙ ap (λ (l : List (ℕ × ℕ)). (l, (others (extra, left)).1)) (sym (append_assoc pairs ((tick, 1 + extra) ∷ []) (others (extra, left)).0)))

pub pairs-last : (pairs : List (ℕ × ℕ)) (n tick rest : ℕ) (words : Lcg) → n ≡ 1 → after pairs (pairs_from n tick rest words) ≡ (pairs ++ (tick, 1 + rest) ∷ [], words)
unfolding pairs_from
pairs-last pairs n tick rest words one = rw one refl
