-- What a desk in memory means whose calls fail as planned.
use Rattle.std.specs.Prelude.{◌==◌, ℕ, Bool, List, Option}
use Rattle.std.specs.List.{list_any}
use Rattle.sota_edge.specs.Desk.{Files, DeskState}
use Rattle.sota_edge.specs.SureDesk.{SureDeskState, sure_files, sure_desk_state}

-- The desk without failures, the numbers of the calls that fail, how many loads and stores there
-- were, the name that failed last, and how many loads and stores failed.
pub record MemoryDeskState : Type 0 where
  pub sure : SureDeskState
  pub fails : List ℕ
  pub calls : ℕ
  pub fault_name : Option (List ℕ)
  pub load_faults : ℕ
  pub store_faults : ℕ

abbrev pub memory_files : MemoryDeskState → Files
memory_files desk = sure_files desk.sure

abbrev pub memory_desk_state : MemoryDeskState → DeskState
memory_desk_state desk = record (sure_desk_state desk.sure) {
  fault_name = desk.fault_name;
  load_faults = desk.load_faults;
  store_faults = desk.store_faults;
}

-- whether a call of this number is to fail
abbrev pub is_listed : List ℕ → ℕ → Bool
is_listed fails call = list_any (λ number. number == call) fails
