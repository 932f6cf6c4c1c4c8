-- What a desk that never fails means.
use Rattle.std.specs.Prelude.{ℕ, List, Some, None, String, Vec, map, string_bytes}
use Rattle.std.specs.BTreeMap.{BTreeMap}
use Rattle.std.specs.Map.{lookup}
use Rattle.std.specs.Str.{bytes_eq}
use Rattle.std.specs.declared.alloc.Global.{Global}
use Rattle.sota_edge.specs.Desk.{Files, DeskState}

-- the names with their bytes, and how many bytes loads took
pub record SureDeskState : Type 0 where
  pub named : List (List ℕ × List ℕ)
  pub taken : ℕ

-- the bytes of the first that has this name
abbrev pub files_of : List (List ℕ × List ℕ) → Files
files_of named name = lookup (bytes_eq name) named

-- a map from names to bytes as a list
abbrev pub texts : BTreeMap (String Global) (Vec ℕ Global) → List (List ℕ × List ℕ)
texts named = map (λ e. (string_bytes e.0, e.1.items)) named.entries

abbrev pub sure_files : SureDeskState → Files
sure_files desk = files_of desk.named

-- the counts of faults stand at 0, so that Failed, which raises one, is never answered
abbrev pub sure_desk_state : SureDeskState → DeskState
sure_desk_state desk = record {
  holds = Some (sure_files desk);
  fault_name = None;
  load_faults = 0;
  store_faults = 0;
  taken = desk.taken;
}
