-- Names of places: a text of lines with a node and a name each.
use Rattle.std.specs.Prelude.{ℕ, ◌==◌, ◌&&◌, nat_lt, nat_le, is_some, List, [], ◌∷◌, ◌++◌}
use Rattle.std.specs.Prelude.{Option, Some, None, Result, Ok, Err, if◌then◌else◌}
use Rattle.std.specs.Str.{bytes_eq, is_utf8}
use Rattle.sota_units.specs.Memory.{◌>>=◌, or_fault}
use Rattle.sota_text.specs.Text.{fields_of, number_of, numbered_lines}
use Rattle.sota_script.specs.Lines.{begins_with_hash}
use Rattle.sota_report.specs.declared.fault.NamesFault.{NamesFault}
use Rattle.sota_report.specs.declared.fault.NamesFault.TheVariants.{Fields, Number, NodeRange}
use Rattle.sota_report.specs.declared.fault.NamesFault.TheVariants.{NotText, RepeatedName}

-- a name and the node that it stands for
abbrev pub Place : Type 0
Place = List ℕ × ℕ

-- ---- look-ups

-- the node of a name; a name stands once, so that no other node has it
abbrev pub node_of : List Place → List ℕ → Option ℕ
node_of [] name = None
node_of (place ∷ places) name =
    if bytes_eq name place.0 then Some place.1 else node_of places name

-- the first name of a node
abbrev pub first_name : List Place → ℕ → Option (List ℕ)
first_name [] node = None
first_name (place ∷ places) node =
    if place.1 == node then Some place.0 else first_name places node

-- ---- lines

-- nodes are numbered from 1
abbrev pub parse_node : ℕ → ℕ → List ℕ → Result ℕ NamesFault
parse_node nodes line field = do
  node ← or_fault (Number line) (number_of field)
  if nat_lt 0 node && nat_le node nodes then Ok node else Err (NodeRange line)

-- a name is text
abbrev pub parse_place_name : ℕ → List ℕ → Result (List ℕ) NamesFault
parse_place_name line field = if is_utf8 field then Ok field else Err (NotText line)

-- 'NODE NAME' and no more
abbrev pub parse_place : ℕ → ℕ → List (List ℕ) → Result Place NamesFault
parse_place nodes line (node ∷ name ∷ []) = do
  node ← parse_node nodes line node
  name ← parse_place_name line name
  Ok (name, node)
parse_place nodes line _ = Err (Fields line)

-- a blank line and a comment have no place
abbrev pub parse_place_fields : ℕ → ℕ → List (List ℕ) → Result (Option Place) NamesFault
parse_place_fields nodes line [] = Ok None
parse_place_fields nodes line (first ∷ more) =
    if begins_with_hash first then Ok None
    else (do
      place ← parse_place nodes line (first ∷ more)
      Ok (Some place))

-- the places with that of a line, whose name is a new one
abbrev pub with_place : List Place → ℕ → Option Place → Result (List Place) NamesFault
with_place before line None = Ok before
with_place before line (Some place) =
    if is_some (node_of before place.0) then Err (RepeatedName line)
    else Ok (before ++ place ∷ [])

-- ---- texts

-- the places before some lines and those of the lines, or the fault of the first faulty line
abbrev pub places_after : ℕ → List Place → List (ℕ × List ℕ) → Result (List Place) NamesFault
places_after nodes before [] = Ok before
places_after nodes before (line ∷ lines) = do
  place ← parse_place_fields nodes line.0 (fields_of line.1)
  places ← with_place before line.0 place
  places_after nodes places lines

-- the places of a text for a network with so many nodes, in the order of their lines, or the text's
-- first fault
abbrev pub places_of : ℕ → List ℕ → Result (List Place) NamesFault
places_of nodes bytes = places_after nodes [] (numbered_lines bytes)
