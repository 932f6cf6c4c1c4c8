use Rattle.std.proofs.Common.{ℕ, nat_le, ◌∙◌, ap, rules}
use Rattle.std.proofs.lemmas.List.Sorted.{IsPartitionPoint-from_clause, IsPartitionedBy-leb}
use Rattle.sota_hist.specs.Time.{within}
use Rattle.sota_hist.proofs.Ticks.{rises_ordered, filter_split}
use Rattle.sota_hist.proofs.histogram.Histogram.within.Goals as goal

pub returns : goal.returns
returns c =
    let parted = IsPartitionedBy-leb (λ (p : ℕ × ℕ). p.0) c.pairs-pairs.result.now c.args.limit (rises_ordered 0 c.pairs-pairs.result.now c.pairs-pairs.ensures.valid) in
    let point = IsPartitionPoint-from_clause (λ (p : ℕ × ℕ). nat_le p.0 c.args.limit) _ _ c.partition_point-end.ensures.partitioned parted (λ a r q k. search rules) in
    filter_split (λ (p : ℕ × ℕ). nat_le p.0 c.args.limit) c.pairs-pairs.result.now c.partition_point-end.result point c.partition_point-end.ensures.bound
    ∙ ap (within c.args.limit) c.pairs-pairs.ensures.value
