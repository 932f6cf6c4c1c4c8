use Rattle.std.proofs.Common.{◌≡◌, ◌^◌, ◌<◌, take}
use Rattle.sota_units.specs.GrainText.{fixed}
use Rattle.sota_units.proofs.spelling.read_digits.Given as goal

abbrev pub invariant-loop-digit : goal.invariant-loop-digit
invariant-loop-digit l = record {
  within : l.number < 10 ^ l.digit-index;
  spelled : take l.digit-index l.digits ≡ fixed l.digit-index l.number;
}
