-- A word has 64 bits, and a number that is drawn is below its bound.
use Rattle.std.proofs.Common.{ℕ, ◌<◌, ◌≤◌, ◌*◌, ◌/◌, ◌%◌, ◌^◌, Fits, w64, bit_xor, arith, mod-lt, div-lt_iff_lt-mul, mul-lt-mul_of_pos_right}
use Rattle.std.proofs.Math.Facts.{Fits-or, Fits-xor, Fits-div, Fits-of_lt, Fits-lt-pow}
use Rattle.std.specs.Int.{rotate_right}
use Rattle.rand_pcg.specs.Lcg.{Lcg, next_state}
use Rattle.rand_pcg.specs.Pcg.{multiplier_128, output_xsl_rr, pcg64}
use Rattle.sota_words.specs.Drawn.{drawn}

rotated-fits : (n by : ℕ) → Fits w64 n → Fits w64 (rotate_right w64 n by)
rotated-fits n by h = Fits-or (Fits-div _ h) (Fits-of_lt (mod-lt _ (omega arith)))

-- the two halves of a state of 128 bits fit a word, and so does what is made of them
output-fits : (state : ℕ) → state < 2 ^ 128 → Fits w64 (output_xsl_rr state)
output-fits state h =
    let some : 0 < 2 ^ 64 = omega arith in
    let high : state / 2 ^ 64 < 2 ^ 64 = (div-lt_iff_lt-mul some).1 h in
    let low : state % 2 ^ 64 < 2 ^ 64 = mod-lt state some in
    rotated-fits (bit_xor (state / 2 ^ 64) (state % 2 ^ 64)) (state / 2 ^ 122) (Fits-xor (Fits-of_lt high) (Fits-of_lt low))

word_below : (words : Lcg) → (pcg64 words).0 < 2 ^ 64
word_below words =
    Fits-lt-pow (output-fits (next_state 128 multiplier_128 words.increment words.state) (mod-lt _ (omega arith)))

pub drawn_below : (bound : ℕ) (words : Lcg) → 1 ≤ bound → (drawn bound words).0 < bound
unfolding drawn
drawn_below bound words some =
    let h : (pcg64 words).0 * bound < 2 ^ 64 * bound = mul-lt-mul_of_pos_right (word_below words) some in
    (div-lt_iff_lt-mul (omega arith)).1 (omega arith)
