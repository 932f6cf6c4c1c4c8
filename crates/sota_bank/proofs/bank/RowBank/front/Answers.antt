use Rattle.sota_bank.proofs.Changes.{read}
use Rattle.sota_bank.proofs.bank.RowBank.front.Goals as goal

pub returns : goal.returns
returns g c = read c.self.inside.chunks.items c.self.inside.region c.self.invariant c.args.self.now c.self.view_is c.args.row c.requires c.index-chunk.result.now c.index-chunk.ensures c.slice.result.now c.slice.ensures
