use Rattle.std.proofs.Common.{◌≤◌, ap, sym, arith}
use Rattle.sota_units.specs.Memory.{or_fault}
use Rattle.sota_units.specs.Rounding.{ONE}
use Rattle.sota_script.proofs.Confidence.{grain_spelled}
use Rattle.sota_script.specs.declared.fault.LineFault.TheVariants.{Number}
use Rattle.sota_script.proofs.line.read_confidence.Goals as goal

pub returns-in-Some : goal.returns-in-Some
returns-in-Some c =
    let within : c.in-Some.grain ≤ ONE = grind (arith, c.if-le.true, c.le.ensures) in
    sym (ap (or_fault Number) (grain_spelled c.args.field.now c.in-Some.grain within c.in-Some.ensures.some))
