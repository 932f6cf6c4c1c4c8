use Rattle.std.proofs.Common.{◌≡◌, ◌≤◌, drop}
use Rattle.std.specs.Str.{all_ascii_digits}
use Rattle.std.specs.Str.Parse.{digits_value, digits_value_after}
use Rattle.sota_text.proofs.number.read_u32.Given as goal

-- what is left decides, and follows the number so far
abbrev pub invariant-loop-byte : goal.invariant-loop-byte
invariant-loop-byte l = record {
  digits : all_ascii_digits (drop l.byte-index l.bytes) ≡ all_ascii_digits l.bytes;
  value : digits_value_after 10 l.value (drop l.byte-index l.bytes) ≡ digits_value 10 l.bytes;
  small : l.value ≤ 4294967295;
}
