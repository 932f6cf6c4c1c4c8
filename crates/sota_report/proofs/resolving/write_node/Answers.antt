use Rattle.std.proofs.Common.{ap, length, length-append, decimal, arith}
use Rattle.std.proofs.lemmas.Fmt.{length-decimal-le}
use Rattle.sota_report.proofs.resolving.write_node.Goals as goal

pub returns-clause-length : goal.returns-clause-length
returns-clause-length c =
    let digits = length-decimal-le 10 c.args.node (omega arith) (omega (arith, c.ranges.node.fits)) (omega (arith, c.ranges.node.fits)) in
    omega (arith, digits, ap length c.in_ok-number.ensures.ok, length-append c.args.out.now (decimal c.from.result), ap (λ n. length (decimal n)) c.from.ensures)
