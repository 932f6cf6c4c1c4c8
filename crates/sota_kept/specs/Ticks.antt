-- Least times up to a limit, as a function that computes. `least_ticks` says what it has to do with
-- walks.
use Rattle.std.specs.Prelude.{ℕ, zero, suc, ◌+◌, min, Bool, true, false, Option, None, Some}
use Rattle.sota_network.specs.Network.{Net}
use Rattle.sota_network.specs.Reach.{reaches}

-- fronts, bases and needs of tables are at most this: one above the greatest budget
abbrev pub END_LIMIT : ℕ
END_LIMIT = 65536

-- how many of n numbers from a on come before the first that passes, n where none does
abbrev pub count_until : (ℕ → Bool) → ℕ → ℕ → ℕ
count_until test a zero = 0
count_until test a (suc n) = elim (test a) [ true ↦ 0 | false ↦ suc (count_until test (a + 1) n) ]

-- the first budget at which a walk from node i to node j is in time, and the limit where none below
-- it is: the least time from i to j, never counting as the limit
unfoldable pub ticks_to : Net → ℕ → ℕ → ℕ → ℕ → ℕ
ticks_to net dest limit j i = count_until (reaches net dest j i) 0 limit

-- the least time from node i to the destination, never counting as the limit
abbrev pub least_to : Net → ℕ → ℕ → ℕ
least_to net dest i = ticks_to net dest END_LIMIT dest i

-- a time up to a limit, never counting as the limit
abbrev pub up_to : ℕ → Option ℕ → ℕ
up_to limit None = limit
up_to limit (Some n) = min n limit
