use Rattle.std.proofs.Common.{◌≡◌, ℕ, ◌+◌, ◌*◌, ◌<◌, slice_index}
use Rattle.sota_block.specs.Product.{coefficient}
use Rattle.sota_block.proofs.wide.multiply_wide.Given as goal

abbrev pub invariant-loop-k : goal.invariant-loop-k
invariant-loop-k g l = record {
  low : (j : ℕ) → j < l.k → slice_index l.low j ≡ coefficient l.kernel l.values j;
  high : (j : ℕ) → j < l.k → slice_index l.high j ≡ coefficient l.kernel l.values (l.length + j);
  counted : l.products ≡ l.initial.products + l.k * l.length;
}
