use Rattle.std.proofs.Common.{◌+◌, ◌-◌, ◌*◌, ◌/◌, sym, arith}
use Rattle.sota_units.proofs.Quotients.{quotient_is, guess_is}
use Rattle.sota_units.proofs.scale.quotient.Goals as goal

pub overflow_sub-rest : goal.overflow_sub-rest
overflow_sub-rest c =
    let x = c.args.x in
    let q = c.args.q in
    let known = guess_is x q c.args.inverse c.from.result c.from-2.result c.requires.positive (omega arith) c.from.ensures c.from-2.ensures c.requires.inverse in
    known.0

pub returns-then-rest-q-clause-quotient : goal.returns-then-rest-q-clause-quotient
returns-then-rest-q-clause-quotient c =
    let x = c.args.x in
    let q = c.args.q in
    let known = guess_is x q c.args.inverse c.from.result c.from-2.result c.requires.positive (omega arith) c.from.ensures c.from-2.ensures c.requires.inverse in
    sym (quotient_is x q (c.from.result * c.from-2.result / 18446744073709551616 + 1) (x - c.from.result * c.from-2.result / 18446744073709551616 * q - q) (omega (arith, known.0, known.1)) (omega (arith, known.0, known.1))).0

pub returns-then-rest-q-clause-remainder : goal.returns-then-rest-q-clause-remainder
returns-then-rest-q-clause-remainder c =
    let x = c.args.x in
    let q = c.args.q in
    let known = guess_is x q c.args.inverse c.from.result c.from-2.result c.requires.positive (omega arith) c.from.ensures c.from-2.ensures c.requires.inverse in
    sym (quotient_is x q (c.from.result * c.from-2.result / 18446744073709551616 + 1) (x - c.from.result * c.from-2.result / 18446744073709551616 * q - q) (omega (arith, known.0, known.1)) (omega (arith, known.0, known.1))).1

pub returns-else-rest-q-clause-quotient : goal.returns-else-rest-q-clause-quotient
returns-else-rest-q-clause-quotient c =
    let x = c.args.x in
    let q = c.args.q in
    let known = guess_is x q c.args.inverse c.from.result c.from-2.result c.requires.positive (omega arith) c.from.ensures c.from-2.ensures c.requires.inverse in
    sym (quotient_is x q (c.from.result * c.from-2.result / 18446744073709551616) (x - c.from.result * c.from-2.result / 18446744073709551616 * q) (omega arith) (omega (arith, known.0))).0

pub returns-else-rest-q-clause-remainder : goal.returns-else-rest-q-clause-remainder
returns-else-rest-q-clause-remainder c =
    let x = c.args.x in
    let q = c.args.q in
    let known = guess_is x q c.args.inverse c.from.result c.from-2.result c.requires.positive (omega arith) c.from.ensures c.from-2.ensures c.requires.inverse in
    sym (quotient_is x q (c.from.result * c.from-2.result / 18446744073709551616) (x - c.from.result * c.from-2.result / 18446744073709551616 * q) (omega arith) (omega (arith, known.0))).1
