-- The words of a seed, and numbers drawn from them. A state of the generator stands for all words
-- that are still to come.
use Rattle.std.specs.Prelude.{ℕ, ◌*◌, ◌/◌, ◌^◌}
use Rattle.rand_pcg.specs.Lcg.{Lcg, started, increment_of}
use Rattle.rand_pcg.specs.Pcg.{multiplier_128, pcg64}

-- the words of a seed, from the first one on: those of the stream 0
unfoldable pub words_of : ℕ → Lcg
words_of seed = started 128 multiplier_128 seed (increment_of 128 0)

-- a number below k from the next word, and the words after that one: the word is a fraction of
-- 2 ^ 64, of which k is a multiple rounded down
unfoldable pub drawn : ℕ → Lcg → ℕ × Lcg
drawn k words = ((pcg64 words).0 * k / 2 ^ 64, (pcg64 words).1)
