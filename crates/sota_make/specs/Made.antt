-- Networks that are made of the words of a seed. A ring of arcs through all nodes comes first, so
-- that each node is reached from each other one.
use Rattle.std.specs.Prelude.{ℕ, zero, suc, ◌+◌, ◌-◌, ◌*◌, ◌/◌, ◌%◌, nat_le, ◌&&◌}
use Rattle.std.specs.Prelude.{Bool, true, false, List, [], ◌∷◌, if◌then◌else◌, Result, Ok, Err}
use Rattle.rand_pcg.specs.Lcg.{Lcg}
use Rattle.sota_words.specs.Drawn.{words_of, drawn}
use Rattle.sota_network.specs.Network.{Net}
use Rattle.sota_network.specs.declared.network.Arc.{Arc}
use Rattle.sota_make.specs.declared.make.MakeFault.{MakeFault}
use Rattle.sota_make.specs.declared.make.MakeFault.TheVariants.{Size, NoMemory}

-- the denominator of the masses
abbrev pub MADE_SCALE : ℕ
MADE_SCALE = 1000000

-- the numbers of which a network is made: there are arcs for the ring, a mass for each tick, and
-- not too many pairs
abbrev pub is_size : ℕ → ℕ → ℕ → Bool
is_size nodes arcs span =
    nat_le 2 nodes && nat_le nodes 10000 && nat_le nodes arcs && nat_le arcs 100000
    && nat_le 1 span && nat_le span 1000 && nat_le (arcs * span) 10000000

-- so many ticks from one on, each with a mass of 1, and `rest` besides: each tick but the last one
-- takes of it at most twice its even share, and the last one takes what is left
unfoldable pub pairs_from : ℕ → ℕ → ℕ → Lcg → List (ℕ × ℕ) × Lcg
pairs_from zero tick rest words = ([], words)
pairs_from (suc zero) tick rest words = ((tick, 1 + rest) ∷ [], words)
pairs_from (suc (suc more)) tick rest words =
    let extra = drawn (2 * rest / suc (suc more) + 1) words in
    let others = pairs_from (suc more) (tick + 1) (rest - extra.0) extra.1 in
    ((tick, 1 + extra.0) ∷ others.0, others.1)

-- a travel time over so many ticks, from one of the first ten ticks on
abbrev pub made_time : ℕ → Lcg → List (ℕ × ℕ) × Lcg
made_time span words =
    let least = drawn 10 words in pairs_from span (1 + least.0) (MADE_SCALE - span) least.1

-- the tail and the head of arc e: on the ring from each node to the next, and then at random
abbrev pub made_ends : ℕ → ℕ → Lcg → (ℕ × ℕ) × Lcg
made_ends nodes e words =
    if nat_le e nodes then ((e, e % nodes + 1), words) else
    let tail = drawn nodes words in
    let head = drawn nodes tail.1 in
    ((1 + tail.0, 1 + head.0), head.1)

-- arc e, and the words after it
abbrev pub made_arc : ℕ → ℕ → ℕ → Lcg → Arc × Lcg
made_arc nodes span e words =
    let ends = made_ends nodes e words in
    let time = made_time span ends.1 in
    (record { tail = ends.0.0; head = ends.0.1; time = time.0 }, time.1)

-- so many arcs, from arc e on
unfoldable pub made_arcs : ℕ → ℕ → ℕ → ℕ → Lcg → List Arc
made_arcs nodes span zero e words = []
made_arcs nodes span (suc more) e words =
    let arc = made_arc nodes span e words in
    arc.0 ∷ made_arcs nodes span more (e + 1) arc.1

-- the network of a seed
abbrev pub made : ℕ → ℕ → ℕ → ℕ → Net
made seed nodes arcs span = record {
  nodes = nodes;
  scale = MADE_SCALE;
  arcs = made_arcs nodes span arcs 1 (words_of seed);
}

-- the network of a seed, or the refusal of numbers of which none is made
abbrev pub made_or_fault : ℕ → ℕ → ℕ → ℕ → Result Net MakeFault
made_or_fault seed nodes arcs span =
    if is_size nodes arcs span then Ok (made seed nodes arcs span) else Err Size

-- want of memory has no cause in the numbers
abbrev pub is_shortage : MakeFault → Bool
is_shortage NoMemory = true
is_shortage Size = false
