use Rattle.std.proofs.Common.{◌+◌, ◌<◌, arith}
use Rattle.sota_network.specs.Grid.{lo, hi}
use Rattle.sota_quantile.proofs.Least.{IsFirst, is-first, is-none}
use Rattle.sota_quantile.proofs.Trees.{not-reached, is-reached}
use Rattle.sota_quantile.proofs.laws.needs_by_trees.Goals as goal

pub returns-clause-none : goal.returns-clause-none
returns-clause-none c = λ net dest i least most t valid is within reached.
    let less : hi net dest i t < least = is-none (hi net dest i) least 0 (most + 1) is t (omega arith) (omega (arith, within)) in
    not-reached net valid.scale dest i least t (lo net dest i t) (hi net dest i t) (c.grid_encloses.ensures.encloses net dest i t valid) less reached

pub returns-clause-below : goal.returns-clause-below
returns-clause-below c = λ net dest i least most a t valid is early reached.
    let first : IsFirst (hi net dest i) least 0 (most + 1) a = is-first (hi net dest i) least 0 (most + 1) a is in
    not-reached net valid.scale dest i least t (lo net dest i t) (hi net dest i t) (c.grid_encloses.ensures.encloses net dest i t valid) (first.before t (omega arith) early) reached

pub returns-clause-within : goal.returns-clause-within
returns-clause-within c = λ net dest i least most b valid is.
    let first : IsFirst (lo net dest i) least 0 (most + 1) b = is-first (lo net dest i) least 0 (most + 1) b is in (
      omega (arith, first.high),
      is-reached net dest i least b (lo net dest i b) (hi net dest i b) (c.grid_encloses.ensures.encloses net dest i b valid) first.there,
    )
