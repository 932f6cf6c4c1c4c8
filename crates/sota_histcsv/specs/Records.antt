-- The records of a histogram text: which they are, what each says, and what is wrong with it.
use Rattle.std.specs.Prelude.{ℕ, List, [], ◌∷◌, ◌++◌, Bool, ◌==◌, ◌&&◌, not, nat_lt, nat_le}
use Rattle.std.specs.Prelude.{length, take, drop, Option, Some, None, option_and_then, codes}
use Rattle.std.specs.Prelude.{if◌then◌else◌}
use Rattle.std.specs.List.{filter_map, list_any, enumerate_from}
use Rattle.std.specs.Option.{option_or}
use Rattle.std.specs.Str.{bytes_eq}
use Rattle.csv.specs.Reading.{records, default_config}
use Rattle.sota_units.specs.Rounding.{SCALE_LIMIT}
use Rattle.sota_text.specs.Text.{number_of}
use Rattle.sota_text.specs.Words.{three}
use Rattle.sota_histcsv.specs.declared.entry.Entry.{Entry}
use Rattle.sota_histcsv.specs.declared.fault.HistFileFault.{HistFileFault}
use Rattle.sota_histcsv.specs.declared.fault.HistFileFault.TheVariants.{Fields, Number, NoArc}
use Rattle.sota_histcsv.specs.declared.fault.HistFileFault.TheVariants.{ZeroTick, RepeatedTick}

-- ---- the text

-- the byte order mark of UTF-8
abbrev pub ORDER_MARK : List ℕ
ORDER_MARK = 239 ∷ 187 ∷ 191 ∷ []

abbrev pub is_marked : List ℕ → Bool
is_marked bytes = bytes_eq (take 3 bytes) ORDER_MARK

-- one mark at the start is no part of the text
abbrev pub without_mark : List ℕ → List ℕ
without_mark bytes = if is_marked bytes then drop 3 bytes else bytes

-- the records that `csv` gives with its defaults: each is the list of its fields, without quotes
abbrev pub text_records : List ℕ → List (List (List ℕ))
text_records text = records default_config text

-- a record with its number; the header has the number 0
abbrev pub NumberedRecord : Type 0
NumberedRecord = ℕ × List (List ℕ)

-- the records after the header, which are counted from 1
abbrev pub numbered_rows : List (List (List ℕ)) → List NumberedRecord
numbered_rows rows = enumerate_from 1 rows

-- ---- the header

abbrev pub is_scale : ℕ → Bool
is_scale q = nat_lt 0 q && nat_le q SCALE_LIMIT

-- 'mass/Q': the scale Q
abbrev pub scale_in : List ℕ → Option ℕ
scale_in field =
    option_and_then
    (λ q. if bytes_eq (take 5 field) (codes "mass/") && is_scale q then Some q else None)
    (number_of (drop 5 field))

-- the scale of a header, which is 'arc,tick,mass/Q'
abbrev pub header_scale : List (List ℕ) → Option ℕ
header_scale fields =
    option_and_then
    (λ word.
    if bytes_eq word.0 (codes "arc") && bytes_eq word.1 (codes "tick") then scale_in word.2
    else None)
    (three fields)

-- ---- what a record says

-- an entry of three numbers, where all are there
abbrev pub entry_of_numbers : ℕ → Option ℕ → Option ℕ → Option ℕ → Option Entry
entry_of_numbers number (Some arc) (Some tick) (Some mass) =
    Some (record { number = number; arc = arc; tick = tick; mass = mass })
entry_of_numbers number _ _ _ = None

-- 'ARC,TICK,MASS', if they are numbers
abbrev pub entry_by : ℕ → List ℕ × List ℕ × List ℕ → Option Entry
entry_by number word =
    entry_of_numbers number (number_of word.0) (number_of word.1) (number_of word.2)

abbrev pub row_entry : NumberedRecord → Option Entry
row_entry row = option_and_then (entry_by row.0) (three row.1)

-- a mass of 0 is no chance, so such a record is dropped, whatever its tick
abbrev pub kept : Option Entry → Option Entry
kept None = None
kept (Some entry) = if entry.mass == 0 then None else Some entry

-- what the records say that are not dropped
abbrev pub entries_in : List NumberedRecord → List Entry
entries_in rows = filter_map (λ row. kept (row_entry row)) rows

-- ---- what is wrong with a record

abbrev pub is_arc : ℕ → ℕ → Bool
is_arc arcs arc = nat_lt 0 arc && nat_le arc arcs

abbrev pub record_fault_of : ℕ → Entry → Option HistFileFault
record_fault_of arcs entry =
    if is_arc arcs entry.arc
    then (if not (entry.mass == 0) && (entry.tick == 0) then Some (ZeroTick entry.number) else None)
    else Some (NoArc entry.number)

abbrev pub number_fault : ℕ → ℕ → Option Entry → Option HistFileFault
number_fault arcs number None = Some (Number number)
number_fault arcs number (Some entry) = record_fault_of arcs entry

-- what is wrong with a record by itself, in a graph of so many arcs
abbrev pub own_fault : ℕ → NumberedRecord → Option HistFileFault
own_fault arcs row =
    if length row.1 == 3 then number_fault arcs row.0 (row_entry row) else Some (Fields row.0)

-- two records give mass to the same tick of the same arc
abbrev pub same_place : Entry → Entry → Bool
same_place one other = (one.arc == other.arc) && (one.tick == other.tick)

-- a record that is not dropped repeats an earlier one that is not dropped
abbrev pub repeat_fault : List Entry → Option Entry → Option HistFileFault
repeat_fault before None = None
repeat_fault before (Some entry) =
    if list_any (same_place entry) before then Some (RepeatedTick entry.number) else None

-- what is wrong with a record, the first in this order, where those before it gave these entries
abbrev pub record_fault : ℕ → List Entry → NumberedRecord → Option HistFileFault
record_fault arcs before row =
    option_or (own_fault arcs row) (repeat_fault before (kept (row_entry row)))

-- the fault of the first record that has one, of records that stand after others
abbrev pub first_record_fault : ℕ → List NumberedRecord → List NumberedRecord → Option HistFileFault
first_record_fault arcs before [] = None
first_record_fault arcs before (row ∷ rows) =
    option_or
    (record_fault arcs (entries_in before) row) (first_record_fault arcs (before ++ row ∷ []) rows)
