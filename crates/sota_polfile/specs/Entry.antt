-- The numbers of an entry.
use Rattle.std.specs.Prelude.{◌<◌, ◌^◌}
use Rattle.sota_polfile.specs.declared.bracket_entry.BracketEntry.{BracketEntry}
use Rattle.sota_polfile.specs.declared.entry.PolicyEntry.{PolicyEntry}

-- an arc has four bytes, a value eight
pub record IsEntry (entry : PolicyEntry) : Type 0 where
  pub arc : entry.arc < 2 ^ 32
  pub value : entry.value < 2 ^ 64

pub record IsBracketEntry (entry : BracketEntry) : Type 0 where
  pub arc : entry.arc < 2 ^ 32
  pub lower : entry.lower < 2 ^ 64
  pub upper : entry.upper < 2 ^ 64
