use Rattle.std.proofs.Common.{ap}
use Rattle.sota_kept.specs.NodeTables.{known_end}
use Rattle.sota_tables.proofs.tests.keeps_entries.Goals as goal

pub answers-requires-clause-end : goal.answers-requires-clause-end
answers-requires-clause-end g c = ap known_end c.push_two.ensures.table
