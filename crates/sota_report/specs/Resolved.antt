-- Lines of a script with names of places in the fields of nodes.
use Rattle.std.specs.Prelude.{ℕ, Bool, ◌==◌, ◌||◌, List, [], ◌∷◌, ◌++◌, take, drop}
use Rattle.std.specs.Prelude.{slice_index, slice_range, codes, decimal}
use Rattle.std.specs.Prelude.{Option, Some, option_map, option_and_then, if◌then◌else◌}
use Rattle.std.specs.Str.{bytes_eq}
use Rattle.sota_text.specs.Spans.{bytes_of, field_spans}
use Rattle.sota_text.specs.declared.span.Span.{Span}
use Rattle.sota_report.specs.Names.{Place, node_of}

-- how many fields after the word of a command stand for nodes and may be names
abbrev pub node_fields : List ℕ → ℕ
node_fields word =
    if bytes_eq word (codes "ask") || (bytes_eq word (codes "policy")
    || (bytes_eq word (codes "bracket") || bytes_eq word (codes "need"))) then 2
    else (if bytes_eq word (codes "route") then 1 else 0)

-- an at sign begins a name
abbrev pub begins_name : List ℕ → Bool
begins_name field = slice_index field 0 == 64

-- what a field stands for: '@NAME' for the decimal number of its node, none where the name is not
-- there, and any other field for itself
abbrev pub resolved_field : List Place → List ℕ → Option (List ℕ)
resolved_field places field =
    if begins_name field then option_map decimal (node_of places (drop 1 field)) else Some field

-- the bytes of a line from a place on, where some fields give way to what they stand for
abbrev pub resolved_from : List Place → List ℕ → ℕ → List Span → Option (List ℕ)
resolved_from places line from [] = Some (drop from line)
resolved_from places line from (field ∷ fields) =
    option_and_then (λ text.
    option_map (λ rest. slice_range line from field.from ++ (text ++ rest))
    (resolved_from places line field.to fields))
    (resolved_field places (bytes_of line field))

-- by the fields of a line
abbrev pub resolved_fields : List Place → List ℕ → List Span → Option (List ℕ)
resolved_fields places line [] = Some line
resolved_fields places line (word ∷ more) =
    resolved_from places line 0 (take (node_fields (bytes_of line word)) more)

-- the line with numbers in the place of names, and no other byte changed; none where a name is not
-- there
abbrev pub resolved : List Place → List ℕ → Option (List ℕ)
resolved places line = resolved_fields places line (field_spans line)
