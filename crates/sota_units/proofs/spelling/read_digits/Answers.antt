use Rattle.std.proofs.Common.{arith, lit<, refl}
use Rattle.sota_units.specs.GrainText.{fixed}
use Rattle.sota_units.proofs.Digits.{digits_more, not_spelled, small_power}
use Rattle.sota_units.proofs.spelling.read_digits.Goals as goal

pub loop-digit-init : goal.loop-digit-init
unfolding fixed
loop-digit-init c = record { within = lit< tt; spelled = refl }

pub returns-then-not-is_ascii_digit-clause-none : goal.returns-then-not-is_ascii_digit-clause-none
returns-then-not-is_ascii_digit-clause-none c = not_spelled c.args.digits.now c.loop-digit.digit-index (omega arith) (λ low high. let out = rw c.if-not-is_ascii_digit.true at c.is_ascii_digit.ensures.cases in omega (arith, out))

pub overflow_mul-number : goal.overflow_mul-number
overflow_mul-number c = omega (arith, small_power c.loop-digit.digit-index (omega arith))

pub overflow_add-number : goal.overflow_add-number
overflow_add-number c = omega (arith, small_power c.loop-digit.digit-index (omega arith))

pub loop-digit-preserved : goal.loop-digit-preserved
loop-digit-preserved c =
    let is = rw c.if-not-is_ascii_digit.false at c.is_ascii_digit.ensures.cases in
    let more = digits_more c.args.digits.now c.loop-digit.digit-index c.loop-digit.number c.loop-digit-test.true (omega (arith, is)) (omega (arith, is)) c.loop-digit.invariant.within c.loop-digit.invariant.spelled in
    rw c.from.ensures (record { within = more.0; spelled = more.1 })
