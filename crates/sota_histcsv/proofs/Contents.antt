-- What the records that are left make of the entries so far.
use Rattle.std.proofs.Common.{◌≡◌, ℕ, ◌+◌, ◌≤◌, true, List, [], ◌∷◌, ◌++◌, length, Option, Some, None, Result, Ok, Err, option_to_list, refl, sym, ◌∙◌, ap, arith, append_assoc, append-nil, Bor}
use Rattle.std.specs.List.{cons_option, enumerate_from}
use Rattle.std.specs.Option.{option_or}
use Rattle.std.proofs.lemmas.List.Elements.{filter_map-append}
use Rattle.csv.specs.declared.reader.Reader.{Reader}
use Rattle.sota_histcsv.specs.declared.entry.Entry.{Entry}
use Rattle.sota_histcsv.specs.declared.fault.HistFileFault.{HistFileFault}
use Rattle.sota_histcsv.specs.declared.fault.HistFileFault.TheVariants.{Header}
use Rattle.sota_histcsv.specs.Records.{NumberedRecord, numbered_rows, header_scale, row_entry, kept, entries_in, own_fault, repeat_fault, record_fault, first_record_fault}
use Rattle.sota_histcsv.specs.Repeats.{first_repeat}
use Rattle.sota_histcsv.specs.Histograms.{Contents, fault_first, contents_after, contents}
use Rattle.sota_units.specs.declared.no_memory.NoMemory.{NoMemory}
use Rattle.sota_histcsv.specs.Left.{Leaves, TakesRecord}

abbrev pub rest_of : ℕ → ℕ → List Entry → List NumberedRecord → Result Contents HistFileFault
rest_of arcs scale entries [] = Ok (record { scale = scale; entries = entries })
rest_of arcs scale entries (row ∷ rows) = fault_first (record_fault arcs entries row) (rest_of arcs scale (entries ++ option_to_list (kept (row_entry row))) rows)

one_entry : (o : Option Entry) → cons_option o [] ≡ option_to_list o
one_entry (Some entry) = refl
one_entry None = refl

pub entries_push : (before : List NumberedRecord) (row : NumberedRecord) → entries_in (before ++ row ∷ []) ≡ entries_in before ++ option_to_list (kept (row_entry row))
entries_push before row = filter_map-append (λ (row : NumberedRecord). kept (row_entry row)) before (row ∷ []) ∙ ap (λ entries. entries_in before ++ entries) (one_entry (kept (row_entry row)))

fault_before : (fault other : Option HistFileFault) (a b : Result Contents HistFileFault) → fault_first other a ≡ b → fault_first (option_or fault other) a ≡ fault_first fault b
fault_before (Some fault) other a b h = refl
fault_before None other a b h = h

abbrev pub contents_from : ℕ → ℕ → List NumberedRecord → List NumberedRecord → List NumberedRecord → Result Contents HistFileFault
contents_from arcs scale before rows all = fault_first (first_record_fault arcs before rows) (Ok (record { scale = scale; entries = entries_in all }))

rest_is : (arcs scale : ℕ) (before rows : List NumberedRecord) → contents_from arcs scale before rows (before ++ rows) ≡ rest_of arcs scale (entries_in before) rows
rest_is arcs scale before [] = ap (λ all. Ok (record { scale = scale; entries = entries_in all })) (append-nil before)
rest_is arcs scale before (row ∷ rows) =
    let rest : contents_from arcs scale (before ++ row ∷ []) rows (before ++ row ∷ rows) ≡ rest_of arcs scale (entries_in before ++ option_to_list (kept (row_entry row))) rows =
    ap (contents_from arcs scale (before ++ row ∷ []) rows) (sym (append_assoc before (row ∷ []) rows))
    ∙ rest_is arcs scale (before ++ row ∷ []) rows
    ∙ ap (λ entries. rest_of arcs scale entries rows) (entries_push before row) in
    fault_before (record_fault arcs (entries_in before) row) (first_record_fault arcs (before ++ row ∷ []) rows) _ _ rest

-- ---- repeats are found among the entries that were kept

none_or : (fault : Option HistFileFault) → option_or fault None ≡ fault
none_or (Some fault) = refl
none_or None = refl

or_or : (a b c : Option HistFileFault) → option_or a (option_or b c) ≡ option_or (option_or a b) c
or_or (Some fault) b c = refl
or_or None b c = refl

first_push : (before entries : List Entry) (entry : Entry) → first_repeat before (entries ++ entry ∷ []) ≡ option_or (first_repeat before entries) (repeat_fault (before ++ entries) (Some entry))
first_push before [] entry =
    none_or (repeat_fault before (Some entry)) ∙ ap (λ before. repeat_fault before (Some entry)) (sym (append-nil before))
first_push before (first ∷ entries) entry =
    ap (option_or (repeat_fault before (Some first))) (first_push (before ++ first ∷ []) entries entry)
    ∙ ap (λ all. option_or (repeat_fault before (Some first)) (option_or (first_repeat (before ++ first ∷ []) entries) (repeat_fault all (Some entry)))) (append_assoc before (first ∷ []) entries)
    ∙ or_or (repeat_fault before (Some first)) (first_repeat (before ++ first ∷ []) entries) (repeat_fault (before ++ first ∷ entries) (Some entry))

fault_or : (a b : Option HistFileFault) (answer : Result Contents HistFileFault) → fault_first a (fault_first b answer) ≡ fault_first (option_or a b) answer
fault_or (Some fault) b answer = refl
fault_or None b answer = refl

repeat_more : (entries : List Entry) (o : Option Entry) (answer : Result Contents HistFileFault) → fault_first (first_repeat [] entries) (fault_first (repeat_fault entries o) answer) ≡ fault_first (first_repeat [] (entries ++ option_to_list o)) answer
repeat_more entries None answer = ap (λ entries. fault_first (first_repeat [] entries) answer) (sym (append-nil entries))
repeat_more entries (Some entry) answer =
    fault_or (first_repeat [] entries) (repeat_fault entries (Some entry)) answer
    ∙ ap (λ fault. fault_first fault answer) (sym (first_push [] entries entry))

-- ---- a reader goes through the records

pub record Goes (arcs scale : ℕ) (all : List (List (List ℕ))) (reader : Reader (Bor (List ℕ))) (entries : List Entry) (number : ℕ) : Type 0 where
  pub left : List (List (List ℕ))
  pub leaves : Leaves reader left
  pub rest : fault_first (first_repeat [] entries) (rest_of arcs scale entries (enumerate_from number left)) ≡ contents arcs all
  pub few : length left + number ≤ length all

pub no_header : (arcs : ℕ) (all : List (List (List ℕ))) → all ≡ [] → contents arcs all ≡ Err Header
no_header arcs all none = ap (contents arcs) none

pub no_scale : (arcs : ℕ) (all : List (List (List ℕ))) (reader : Reader (Bor (List ℕ))) (fields : List (List ℕ)) → TakesRecord {E = NoMemory} (Ok true) all reader fields → None ≡ header_scale fields → contents arcs all ≡ Err Header
no_scale arcs [] reader fields takes none = absurd takes
no_scale arcs (header ∷ rows) reader fields takes none = ap (λ scale. contents_after arcs scale (numbered_rows rows)) (ap header_scale (sym takes.0) ∙ sym none)

pub begun : (arcs scale : ℕ) (all : List (List (List ℕ))) (reader : Reader (Bor (List ℕ))) (fields : List (List ℕ)) → TakesRecord {E = NoMemory} (Ok true) all reader fields → Some scale ≡ header_scale fields → Goes arcs scale all reader [] 1
begun arcs scale [] reader fields takes some = absurd takes
begun arcs scale (header ∷ rows) reader fields takes some = record {
  left = rows;
  leaves = takes.1;
  rest = sym (rest_is arcs scale [] (numbered_rows rows)) ∙ ap (λ scale. contents_after arcs scale (numbered_rows rows)) (some ∙ ap header_scale takes.0);
  few = omega arith;
}

pub ended : (arcs scale number : ℕ) (all : List (List (List ℕ))) (reader : Reader (Bor (List ℕ))) (entries : List Entry) (goes : Goes arcs scale all reader entries number)
    → goes.left ≡ [] → fault_first (first_repeat [] entries) (Ok (record { scale = scale; entries = entries })) ≡ contents arcs all
ended arcs scale number all reader entries goes none =
    ap (λ left. fault_first (first_repeat [] entries) (rest_of arcs scale entries (enumerate_from number left))) (sym none) ∙ goes.rest

-- what one record more makes of it
pub record GoesOn (arcs scale number : ℕ) (all : List (List (List ℕ))) (after : Reader (Bor (List ℕ))) (entries : List Entry) (fields : List (List ℕ)) : Type 0 where
  pub fault : (why : HistFileFault) → own_fault arcs (number, fields) ≡ Some why → fault_first (first_repeat [] entries) (Err why) ≡ contents arcs all
  pub more : (o : Option Entry) → own_fault arcs (number, fields) ≡ None → o ≡ kept (row_entry (number, fields)) → Goes arcs scale all after (entries ++ option_to_list o) (number + 1)

on_left : (arcs scale number : ℕ) (all left : List (List (List ℕ))) (after : Reader (Bor (List ℕ))) (entries : List Entry) (fields : List (List ℕ)) → TakesRecord {E = NoMemory} (Ok true) left after fields
    → fault_first (first_repeat [] entries) (rest_of arcs scale entries (enumerate_from number left)) ≡ contents arcs all → length left + number ≤ length all → GoesOn arcs scale number all after entries fields
on_left arcs scale number all [] after entries fields takes rest few = absurd takes
on_left arcs scale number all (first ∷ left) after entries fields takes rest few =
    let next = λ (o : Option Entry). rest_of arcs scale (entries ++ option_to_list o) (enumerate_from (number + 1) left) in
    let answer = λ (own : Option HistFileFault) (o : Option Entry). fault_first (first_repeat [] entries) (fault_first (option_or own (repeat_fault entries o)) (next o)) in
    let here : answer (own_fault arcs (number, fields)) (kept (row_entry (number, fields))) ≡ contents arcs all = rw (takes.0) rest in
    record {
      fault = λ why e. ap (λ own. answer own (kept (row_entry (number, fields)))) (sym e) ∙ here;
      more = λ o none is. record {
        left = left;
        leaves = takes.1;
        rest = sym (repeat_more entries o (next o)) ∙ ap (answer None) is ∙ ap (λ own. answer own (kept (row_entry (number, fields)))) (sym none) ∙ here;
        few = omega arith;
      };
    }

pub goes_on : (arcs scale number : ℕ) (all : List (List (List ℕ))) (reader after : Reader (Bor (List ℕ))) (entries : List Entry) (fields : List (List ℕ)) (goes : Goes arcs scale all reader entries number)
    → TakesRecord {E = NoMemory} (Ok true) goes.left after fields → GoesOn arcs scale number all after entries fields
goes_on arcs scale number all reader after entries fields goes takes = on_left arcs scale number all goes.left after entries fields takes goes.rest goes.few
