use Rattle.sota_bank.proofs.Changes.{cut_to}
use Rattle.sota_bank.proofs.bank.RowBank.cut.Goals as goal

pub invariant_of-self : goal.invariant_of-self
invariant_of-self g c =
    rw c.min.ensures (cut_to c.self.inside.chunks.items c.self.inside.region c.self.invariant c.args.self.now c.self.view_is c.args.row c.requires c.index-chunk.result.now c.index-chunk.ensures c.args.count).0

pub returns : goal.returns
returns g c =
    rw c.min.ensures (cut_to c.self.inside.chunks.items c.self.inside.region c.self.invariant c.args.self.now c.self.view_is c.args.row c.requires c.index-chunk.result.now c.index-chunk.ensures c.args.count).1
