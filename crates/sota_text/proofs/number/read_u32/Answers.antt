use Rattle.std.proofs.Common.{◌≡◌, ◌+◌, ◌-◌, ◌*◌, drop, get_or, arith}
use Rattle.std.proofs.lemmas.Grind.{common_steps}
use Rattle.std.specs.Str.Parse.{digits_value, digits_value_after}
use Rattle.sota_text.proofs.Digits.{too_great, after-ge}
use Rattle.sota_text.proofs.number.read_u32.Goals as goal

pub returns-then-value-from : goal.returns-then-value-from
returns-then-value-from c =
    let value = c.loop-byte.value * 10 + (get_or c.args.bytes.now c.loop-byte.byte-index 0 - 48) in
    let rest = drop (c.loop-byte.byte-index + 1) c.args.bytes.now in
    let step : digits_value_after 10 value rest ≡ digits_value 10 c.args.bytes.now = grind (arith, common_steps) in
    too_great c.args.bytes.now (omega (arith, after-ge rest value))
