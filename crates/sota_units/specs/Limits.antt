-- The limits of what is accepted, in one place.
use Rattle.std.specs.Prelude.{ℕ}

-- the most nodes and arcs that a network may have
abbrev pub NODE_LIMIT : ℕ
NODE_LIMIT = 1000000

abbrev pub ARC_LIMIT : ℕ
ARC_LIMIT = 4000000

-- the greatest budget of an ask, in ticks
abbrev pub BUDGET_LIMIT : ℕ
BUDGET_LIMIT = 65535

-- the greatest tick of a histogram: it is a number of 32 bits
abbrev pub TICK_LIMIT : ℕ
TICK_LIMIT = 4294967295

-- the most bytes of a graph, of histograms and of a script: 64 MiB
abbrev pub TEXT_LIMIT : ℕ
TEXT_LIMIT = 67108864
