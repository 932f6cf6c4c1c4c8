use Rattle.sota_bank.proofs.Changes.{push}
use Rattle.sota_bank.proofs.bank.RowBank.push.Goals as goal

pub invariant_of-self : goal.invariant_of-self
invariant_of-self g c =
    rw c.write.ensures (push c.self.inside.chunks.items c.self.inside.region c.self.invariant c.args.self.now c.self.view_is c.args.row c.requires.row c.index-chunk.result.now c.index-chunk.ensures c.args.value c.requires.room).0

pub returns-clause-rows : goal.returns-clause-rows
returns-clause-rows g c =
    rw c.write.ensures (push c.self.inside.chunks.items c.self.inside.region c.self.invariant c.args.self.now c.self.view_is c.args.row c.requires.row c.index-chunk.result.now c.index-chunk.ensures c.args.value c.requires.room).1
