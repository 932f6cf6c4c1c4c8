-- What a line of a script holds: a command, nothing, or a fault.
use Rattle.std.specs.Prelude.{ℕ, ◌≡◌, Bool, ◌==◌, ◌&&◌, nat_le, List, [], ◌∷◌, ◌++◌, slice_index}
use Rattle.std.specs.Prelude.{take, drop, map, codes}
use Rattle.std.specs.Prelude.{Option, Some, None, option_map, Result, Ok, Err, if◌then◌else◌}
use Rattle.std.specs.List.{before_first, after_first}
use Rattle.std.specs.Str.{bytes_eq, is_utf8}
use Rattle.std.specs.Str.Parse.{digits_value}
use Rattle.sota_units.specs.GrainText.{grain_spelling}
use Rattle.sota_units.specs.Memory.{◌>>=◌, or_fault}
use Rattle.sota_units.specs.Rounding.{ONE}
use Rattle.sota_text.specs.Text.{fields_of, number_of}
use Rattle.sota_text.specs.Words.{three, four}
use Rattle.sota_script.specs.declared.command.Ask3.{Ask3}
use Rattle.sota_script.specs.declared.command.Command.{Command}
use Rattle.sota_script.specs.declared.command.Command.TheVariants as commands
use Rattle.sota_script.specs.declared.fault.LineFault.{LineFault}
use Rattle.sota_script.specs.declared.fault.LineFault.TheVariants.{Word, Count, Number, Name}

-- all of them, or none where one is missing
abbrev pub all_there : {A : Type 0} → List (Option A) → Option (List A)
all_there [] = Some []
all_there (None ∷ more) = None
all_there (Some x ∷ more) = option_map (λ xs. x ∷ xs) (all_there more)

-- ---- fields

abbrev pub both : {A B : Type 0} → Option A → Option B → Option (A × B)
both (Some x) (Some y) = Some (x, y)
both _ _ = None

abbrev pub parse_number : List ℕ → Result ℕ LineFault
parse_number field = or_fault Number (number_of field)

abbrev pub is_colon : ℕ → Bool
is_colon byte = byte == 58

-- 'T:M': a number, a colon and a number. No digit is a colon, so it is the first one that parts the
-- two; where there is none, nothing stands after it, which is no number
abbrev pub pair_of : List ℕ → Option (ℕ × ℕ)
pair_of field =
    both (number_of (before_first is_colon field)) (number_of (after_first is_colon field))

-- the same without a first colon: the texts of two numbers with a colon between
pub record IsPair (field : List ℕ) (pair : ℕ × ℕ) : Type 0 where
  pub tick : List ℕ
  pub mass : List ℕ
  pub parts : field ≡ tick ++ 58 ∷ mass
  pub tick_is : number_of tick ≡ Some pair.0
  pub mass_is : number_of mass ≡ Some pair.1

abbrev pub pairs_of : List (List ℕ) → Option (List (ℕ × ℕ))
pairs_of fields = all_there (map pair_of fields)

abbrev pub numbers_of : List (List ℕ) → Option (List ℕ)
numbers_of fields = all_there (map number_of fields)

-- the number of a field's digits, all its bytes but the point
abbrev pub units_of : List ℕ → ℕ
units_of field = digits_value 10 (take 1 field ++ drop 2 field)

-- the probability of which a field is the spelling, in units of ten to the minus eighteenth. A
-- spelling has the digits of its number, so that no other one has to be tried
abbrev pub grain_of : List ℕ → Option ℕ
grain_of field =
    if nat_le (units_of field) ONE && bytes_eq field (grain_spelling (units_of field))
    then Some (units_of field)
    else None

-- 'O D T'
abbrev pub parse_ask : List ℕ → List ℕ → List ℕ → Result Ask3 LineFault
parse_ask origin dest budget = do
  origin ← parse_number origin
  dest ← parse_number dest
  budget ← parse_number budget
  Ok (record { origin = origin; dest = dest; budget = budget })

-- a name is text
abbrev pub parse_name : List ℕ → Result (List ℕ) LineFault
parse_name field = if is_utf8 field then Ok field else Err Name

-- ---- commands, by the fields after their words

-- 'O D T' after 'ask'
abbrev pub parse_ask_line : List (List ℕ) → Result Command LineFault
parse_ask_line words = do
  word ← or_fault Count (three words)
  ask ← parse_ask word.0 word.1 word.2
  Ok (commands.Ask ask)

-- 'O D T NAME': an ask, and the name under which what is planned for it is to be stored
abbrev pub parse_named : List (List ℕ) → Result (Ask3 × List ℕ) LineFault
parse_named words = do
  word ← or_fault Count (four words)
  ask ← parse_ask word.0 word.1 word.2
  name ← parse_name word.3
  Ok (ask, name)

-- this after 'policy'
abbrev pub parse_policy : List (List ℕ) → Result Command LineFault
parse_policy words = do
  named ← parse_named words
  Ok (commands.Policy named.0 named.1)

-- and after 'bracket'
abbrev pub parse_bracket : List (List ℕ) → Result Command LineFault
parse_bracket words = do
  named ← parse_named words
  Ok (commands.Bracket named.0 named.1)

-- 'ARC T:M ..' after 'edit', with one pair or more
abbrev pub parse_edit : List (List ℕ) → Result Command LineFault
parse_edit (arc ∷ first ∷ more) = do
  number ← parse_number arc
  pairs ← or_fault Number (pairs_of (first ∷ more))
  Ok (commands.Edit number pairs)
parse_edit _ = Err Count

-- 'D T ARC ..' after 'route', with one arc or more
abbrev pub parse_route : List (List ℕ) → Result Command LineFault
parse_route (dest ∷ budget ∷ first ∷ more) = do
  dest ← parse_number dest
  budget ← parse_number budget
  arcs ← or_fault Number (numbers_of (first ∷ more))
  Ok (commands.Route dest budget arcs)
parse_route _ = Err Count

-- 'O D CONF TMAX' after 'need'
abbrev pub parse_need : List (List ℕ) → Result Command LineFault
parse_need words = do
  word ← or_fault Count (four words)
  ask ← parse_ask word.0 word.1 word.3
  confidence ← or_fault Number (grain_of word.2)
  Ok (commands.Need ask confidence)

-- 'ARC' after 'close'
abbrev pub parse_close : List (List ℕ) → Result Command LineFault
parse_close (arc ∷ []) = do
  number ← parse_number arc
  Ok (commands.Close number)
parse_close _ = Err Count

-- the command of a word and the fields after it; each word of a command has its line here
abbrev pub parse_command : List ℕ → List (List ℕ) → Result Command LineFault
parse_command first words =
    if bytes_eq first (codes "edit") then parse_edit words
    else (if bytes_eq first (codes "close") then parse_close words
    else (if bytes_eq first (codes "ask") then parse_ask_line words
    else (if bytes_eq first (codes "policy") then parse_policy words
    else (if bytes_eq first (codes "bracket") then parse_bracket words
    else (if bytes_eq first (codes "route") then parse_route words
    else (if bytes_eq first (codes "need") then parse_need words
    else Err Word))))))

-- ---- lines

-- comments begin with a '#'
abbrev pub begins_with_hash : List ℕ → Bool
begins_with_hash first = slice_index first 0 == 35

-- by the first field: none or one that begins with '#', or the word of a command
abbrev pub parse_fields : List (List ℕ) → Result (Option Command) LineFault
parse_fields [] = Ok None
parse_fields (first ∷ words) =
    if begins_with_hash first then Ok None
    else (do
      command ← parse_command first words
      Ok (Some command))

-- the command of a line, none where it is blank or a comment, or the first fault
abbrev pub parse_line : List ℕ → Result (Option Command) LineFault
parse_line line = parse_fields (fields_of line)
