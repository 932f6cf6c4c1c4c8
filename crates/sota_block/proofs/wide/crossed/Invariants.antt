use Rattle.std.proofs.Common.{◌≡◌, ◌+◌, ◌-◌, ◌*◌, slice_index}
use Rattle.sota_block.specs.Product.{sum_below}
use Rattle.sota_block.proofs.wide.crossed.Given as goal

abbrev pub invariant-loop-b : goal.invariant-loop-b
invariant-loop-b g l = record {
  so_far : l.sum ≡ sum_below l.b (λ b. slice_index l.masses b * slice_index l.values (l.length - 1 - b));
  counted : l.products ≡ l.initial.products + l.b;
}
