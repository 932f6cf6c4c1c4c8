use Rattle.std.proofs.Common.{◌∙◌, ◌+◌, ◌-◌, ◌++◌, ap, take, get_or, None, arith}
use Rattle.std.specs.Prelude.{replicate}
use Rattle.sota_report.proofs.Firsts.{room}
use Rattle.sota_report.proofs.names.make_room.Goals as goal

pub returns-in_ok-resize-clause-same : goal.returns-in_ok-resize-clause-same
returns-in_ok-resize-clause-same c n =
    let firsts = c.args.firsts.now in
    ap (λ firsts. get_or firsts n None) c.in_ok-resize.ensures.items
    ∙ ap (λ size. get_or (take (c.args.node + 1) firsts.items ++ replicate (c.args.node + 1 - size) None) n None) firsts.ok.0
    ∙ room firsts.items (c.args.node + 1) n (omega (arith, firsts.ok.0))
