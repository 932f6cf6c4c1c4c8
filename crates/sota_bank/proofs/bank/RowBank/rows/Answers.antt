use Rattle.sota_bank.proofs.Changes.{all_within}
use Rattle.sota_bank.proofs.bank.RowBank.rows.Goals as goal

pub returns-clause-within : goal.returns-clause-within
returns-clause-within g c = all_within c.self.inside.chunks.items c.self.inside.region c.self.invariant c.args.self.now c.self.view_is
