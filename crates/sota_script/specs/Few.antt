-- An edit has few pairs, since its line is short.
use Rattle.std.specs.Prelude.{◌<◌, ◌^◌, length}
use Rattle.sota_script.specs.declared.command.Command.{Command}
use Rattle.sota_script.specs.declared.command.Command.TheVariants as commands

-- as many as a histogram can be built of
abbrev pub HasFewPairs : Command → Type 0
HasFewPairs (commands.Edit arc pairs) = length pairs < 2 ^ 32
HasFewPairs _ = Unit {0}
