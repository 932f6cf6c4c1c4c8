-- The limit of what is read.
use Rattle.std.specs.Prelude.{ℕ}

-- the most bytes of a policy file of either version
abbrev pub POLICY_LIMIT : ℕ
POLICY_LIMIT = 1400000000
