use Rattle.std.proofs.Common.{◌≡◌}
use Rattle.sota_check.proofs.judge_bracket.bracketed.Goals as goal

pub unwrap-requires : goal.unwrap-requires
unwrap-requires c =
    let table = c.args.table.now in
    let few = (c.bracketed_encloses.ensures.whole c.args.network.now table table.head.origin table.head.budget c.requires.valid c.requires.bracketed).0 in
    c.new.ensures.some.1 (rw c.named_values-lower.ensures.lower few)

pub returns-clause-encloses : goal.returns-clause-encloses
returns-clause-encloses c =
    let table = c.args.table.now in
    let kept = c.bracketed_encloses.ensures.encloses c.args.network.now table table.head.origin table.head.budget c.requires.valid c.requires.table c.requires.bracketed in
    let units : c.unwrap.result ≡ c.named_values-lower.result.0 = rw c.unwrap.ensures at c.new.ensures.value in
    let most : c.unwrap-2.result ≡ c.named_values-lower.result.1 = rw c.unwrap-2.ensures at c.new-2.ensures.value in
    rw (c.head-head.ensures.value, units, most, c.named_values-lower.ensures.lower, c.named_values-lower.ensures.upper) kept
