use Rattle.std.proofs.Common.{◌≡◌, ◌≤◌}
use Rattle.sota_units.specs.Rounding.{ONE}
use Rattle.sota_polfile.specs.Table.{entry_of}
use Rattle.sota_check.specs.Certified.{value, rule}
use Rattle.sota_check.proofs.Keeping.{sound}
use Rattle.sota_check.proofs.judge.certified.Goals as goal

pub unwrap-requires : goal.unwrap-requires
unwrap-requires c =
    let net = c.args.network.now in
    let table = c.args.table.now in
    let few : value table table.head.origin table.head.budget ≤ ONE =
    c.sound_values.ensures.whole net table.head.dest (value table) (rule table) c.requires.valid
    (sound net table.head (entry_of table) c.requires.certified) table.head.origin table.head.budget in
    c.new.ensures.some.1 (rw c.named_value-units.ensures few)

pub returns-clause-attained : goal.returns-clause-attained
returns-clause-attained c =
    let net = c.args.network.now in
    let table = c.args.table.now in
    let kept = c.sound_values.ensures.attained net table.head.dest (value table) (rule table) c.requires.valid
    (sound net table.head (entry_of table) c.requires.certified) table.head.origin table.head.budget in
    let units : c.unwrap.result ≡ c.named_value-units.result = rw c.unwrap.ensures at c.new.ensures.value in
    rw (c.head-head.ensures.value, units, c.named_value-units.ensures) kept
