-- Kinds of refusals.
use Rattle.std.specs.Prelude.{Bool, true, false, Option, None, Some, Result, Ok, Err}
use Rattle.std.specs.Prelude.{if◌then◌else◌}
use Rattle.sota_bounds.specs.declared.fault.AskFault.{AskFault}
use Rattle.sota_bounds.specs.declared.fault.AskFault.TheVariants as asks

-- a number of the ask is out of range
abbrev pub is_of_range : AskFault → Bool
is_of_range asks.NoOrigin = true
is_of_range asks.NoDest = true
is_of_range asks.Budget = true
is_of_range _ = false

-- the region of the ask is too large
abbrev pub is_of_size : AskFault → Bool
is_of_size (asks.TableCells count) = true
is_of_size (asks.BroadCells count) = true
is_of_size _ = false

-- whether a call was refused for a fault of this kind
abbrev pub is_refused : {A E : Type 0} → (E → Bool) → Result A E → Bool
is_refused kind (Ok value) = false
is_refused kind (Err fault) = kind fault

-- the fault of this kind for which it was refused, none where it was not
abbrev pub refusal_of : {A E : Type 0} → (E → Bool) → Result A E → Option E
refusal_of kind (Ok value) = None
refusal_of kind (Err fault) = if kind fault then Some fault else None
