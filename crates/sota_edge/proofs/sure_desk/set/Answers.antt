use Rattle.sota_edge.proofs.Names.{files_after}
use Rattle.sota_edge.proofs.sure_desk.set.Goals as goal

pub returns-clause-ok : goal.returns-clause-ok
returns-clause-ok c = files_after _ _ c.args.named.now c.insert.new.self c.args.bytes c.in_ok-key.ensures.ok c.in_ok-insert.ensures.updates
