-- Which numbers are those of nodes.
use Rattle.std.specs.Prelude.{ℕ, ◌&&◌, nat_le, Bool}

-- whether a number is that of one of so many nodes: they are numbered from 1
abbrev pub is_node_number : ℕ → ℕ → Bool
is_node_number nodes node = nat_le 1 node && nat_le node nodes
