-- How names are kept: in the order of their lines, and by nodes.
use Rattle.std.specs.Prelude.{◌≡◌, ℕ, ◌<◌, List, map, length, get_or, slice_get}
use Rattle.std.specs.Prelude.{Option, Some, None, IfSome, is_none, option_map, option_and_then}
use Rattle.std.specs.Prelude.{set, if◌then◌else◌}
use Rattle.std.specs.Prelude.{All, String, string_bytes}
use Rattle.std.specs.Str.{IsUtf8}
use Rattle.std.specs.declared.alloc.Global.{Global}
use Rattle.sota_report.specs.Names.{Place, first_name}

-- the places that a map's entries are
abbrev pub places_in : List (String Global × ℕ) → List Place
places_in entries = map (λ entry. (string_bytes entry.0, entry.1)) entries

-- the name that stands at an index, if any does
abbrev pub name_at : List Place → Option ℕ → Option (List ℕ)
name_at places index =
    option_and_then (λ index. option_map (λ place. place.0) (slice_get places index)) index

-- this index, where there is one, is that of the first name of the node
pub record ShowsFirst (places : List Place) (node : ℕ) (index : Option ℕ) : Type 0 where
  pub is : name_at places index ≡ first_name places node
  pub within : IfSome index (λ index. index < length places)

-- by a node's number, where its first name stands
abbrev pub ShowsFirsts : List Place → List (Option ℕ) → Type 0
ShowsFirsts places firsts = (node : ℕ) → ShowsFirst places node (get_or firsts node None)

-- names are texts, and the first one of each node is shown
pub record AreNamesKept (places : List Place) (firsts : List (Option ℕ)) : Type 0 where
  pub texts : All (λ place. IsUtf8 place.0) places
  pub firsts_shown : ShowsFirsts places firsts

-- the node's first name is the one at the index, unless it has one
abbrev pub with_first : List (Option ℕ) → ℕ → ℕ → List (Option ℕ)
with_first firsts node index =
    if is_none (get_or firsts node None) then set firsts node (Some index) else firsts
