-- What a reader of `csv` has left, and what it takes of that.
use Rattle.std.proofs.Common.{◌≡◌, ℕ, zero, suc, ◌+◌, ◌<◌, ◌≤◌, ◌==◌, ◌&&◌, ◌||◌, Bool, true, false, cond, List, [], ◌∷◌, ◌++◌, length, Option, Some, None, Ok, refl, sym, ◌∙◌, subst, arith, inl, Bor}
use Rattle.csv.specs.Machine.{Read, next_record, step, in_field, start_field, start_record, is_end, fields_after, field_after, ends_at_end}
use Rattle.csv.specs.Reading.{ReadRecord, Reached, AreRecords, default_config, records, records_from, records_next, strip_bom, is_bom}
use Rattle.csv.specs.declared.parser.State.{State}
use Rattle.csv.specs.declared.parser.State.TheVariants as st
use Rattle.csv.specs.declared.parser.Action.{Action}
use Rattle.csv.specs.declared.parser.Action.TheVariants as act
use Rattle.csv.specs.declared.reader.Reader.{Reader}
use Rattle.csv.proofs.ReadFacts.{rows-more, rows-end}
use Rattle.sota_units.specs.declared.no_memory.NoMemory.{NoMemory}
use Rattle.sota_histcsv.specs.Left.{Leaves, TakesRecord}
use Rattle.sota_histcsv.specs.Records.{is_marked}

-- ---- a record takes bytes

abbrev pub Ends : State × Action → Type 0
Ends p = is_end p.1 ≡ true → ends_at_end p.0 ≡ false

ends_if : (b : Bool) (p q : State × Action) → Ends p → Ends q → Ends (cond b p q)
ends_if true p q one other = one
ends_if false p q one other = other

line_ends : (cr : Bool) → Ends (cond cr st.AfterCr st.StartRecord, act.EndRecord)
line_ends true e = refl
line_ends false e = refl

in_field_ends : (c : ℕ) → Ends (in_field default_config c)
in_field_ends c = ends_if (c == 44) _ _ (λ e. cc) (ends_if ((c == 13) || (c == 10)) _ _ (line_ends (c == 13)) (λ e. cc))

start_field_ends : (c : ℕ) → Ends (start_field default_config c)
start_field_ends c = ends_if (c == 34) _ _ (λ e. cc) (in_field_ends c)

start_record_ends : (c : ℕ) → Ends (start_record default_config c)
start_record_ends c = ends_if ((c == 13) || (c == 10)) _ _ (λ e. cc) (start_field_ends c)

-- where a record ends, no other has begun
step_ends : (s : State) (c : ℕ) → Ends (step default_config s c)
step_ends st.StartRecord c = start_record_ends c
step_ends st.StartField c = start_field_ends c
step_ends st.InField c = in_field_ends c
step_ends st.InQuoted c = ends_if (c == 34) _ _ (λ e. cc) (λ e. cc)
step_ends st.InEscape c = λ e. cc
step_ends st.AfterQuote c = ends_if (c == 34) _ _ (λ e. cc) (in_field_ends c)
step_ends st.InComment c = ends_if (c == 10) _ _ (λ e. cc) (λ e. cc)
step_ends st.AfterCr c = ends_if (c == 10) _ _ (λ e. cc) (start_record_ends c)

pub record Shorter (p : Read) (xs : List ℕ) : Type 0 where
  pub shorter : length p.2 ≤ length xs
  pub idle : ends_at_end p.1 ≡ false

last_shorter : (ends : Bool) (fields : List (List ℕ)) (p : Read) → cond ends (Some (fields, st.StartRecord, [])) None ≡ Some p → Shorter p []
last_shorter true fields p e =
    let same : p ≡ (fields, st.StartRecord, []) = cc in
    subst (λ p. Shorter p []) (sym same) (record { shorter = omega arith; idle = refl })
last_shorter false fields p e = cc

longer : (c : ℕ) (rest : List ℕ) (p : Read) → Shorter p rest → Shorter p (c ∷ rest)
longer c rest p h = record { shorter = omega (arith, h.shorter); idle = h.idle }

step_shorter : (ends : Bool) (fields : List (List ℕ)) (s : State) (rest : List ℕ) (next : Option Read) (p : Read) → (ends ≡ true → ends_at_end s ≡ false)
    → (next ≡ Some p → Shorter p rest) → cond ends (Some (fields, s, rest)) next ≡ Some p → Shorter p rest
step_shorter true fields s rest next p idle more e =
    let same : p ≡ (fields, s, rest) = cc in
    subst (λ p. Shorter p rest) (sym same) (record { shorter = omega arith; idle = idle refl })
step_shorter false fields s rest next p idle more e = more e

next_shorter : (s : State) (fields : List (List ℕ)) (field xs : List ℕ) (p : Read) → next_record default_config s fields field xs ≡ Some p → Shorter p xs
unfolding next_record
next_shorter s fields field [] p e = last_shorter (ends_at_end s) (fields ++ (field ∷ [])) p e
next_shorter s fields field (c ∷ rest) p e =
    let (state, action) = step default_config s c in
    longer c rest p
    (step_shorter (is_end action) (fields_after action fields field) state rest _ p (step_ends s c)
    (next_shorter state (fields_after action fields field) (field_after action c field) rest p) e)

-- a record that begins takes a byte
first_shorter : (s : State) (xs : List ℕ) (p : Read) → ends_at_end s ≡ false → next_record default_config s [] [] xs ≡ Some p → (length p.2 < length xs) × (ends_at_end p.1 ≡ false)
unfolding next_record
first_shorter s [] p idle e = cc
first_shorter s (c ∷ rest) p idle e =
    let (state, action) = step default_config s c in
    let h = step_shorter (is_end action) (fields_after action [] []) state rest _ p (step_ends s c)
    (next_shorter state (fields_after action [] []) (field_after action c []) rest p) e in
    (omega (arith, h.shorter), h.idle)

-- ---- all records

all_records : (n : ℕ) (s : State) (xs : List ℕ) → ends_at_end s ≡ false → length xs < n → AreRecords default_config s xs (records_from default_config n s xs)
unfolding records_from Reached
all_records zero s xs idle less = absurd (omega arith)
all_records (suc n) s xs idle less =
    elim (next_record default_config s [] [] xs) as (λ o. next_record default_config s [] [] xs ≡ o → AreRecords default_config s xs (records_next (records_from default_config n) o)) [
      | None ↦ λ e. (s, xs, (refl, refl), e)
      | Some p ↦ λ e.
          let h = first_shorter s xs p idle e in
          let rest = all_records n p.1 p.2 h.1 (omega (arith, h.0)) in
          (rest.0, rest.1, (p, e, refl, rest.2), rest.3)
    ] refl

few_records : (n : ℕ) (s : State) (xs : List ℕ) → length (records_from default_config n s xs) ≤ n
unfolding records_from
few_records zero s xs = omega arith
few_records (suc n) s xs =
    elim (next_record default_config s [] [] xs) as (λ o. length (records_next (records_from default_config n) o) ≤ suc n) [
      | None ↦ omega arith
      | Some p ↦ omega (arith, few_records n p.1 p.2)
    ]

both_marks : (x y z : Bool) → (x && (y && (z && true))) ≡ false → (x && y && z) ≡ true → ⊥
both_marks true true true e h = cc
both_marks true true false e h = cc
both_marks true false z e h = cc
both_marks false y z e h = cc

pub not_marked : (text : List ℕ) → is_marked text ≡ false → strip_bom text ≡ text
unfolding strip_bom
not_marked [] e = refl
not_marked (a ∷ []) e = refl
not_marked (a ∷ b ∷ []) e = refl
not_marked (a ∷ b ∷ c ∷ rest) e =
    elim (is_bom a b c) as (λ m. is_bom a b c ≡ m → cond m rest (a ∷ b ∷ c ∷ rest) ≡ a ∷ b ∷ c ∷ rest) [
      | false ↦ λ m. refl
      | true ↦ λ m. absurd (both_marks (a == 239) (b == 187) (c == 191) e m)
    ] refl

-- ---- a reader takes a record

pub taken : (old new : Reader (Bor (List ℕ))) (found : Bool) (fields : List (List ℕ)) (left : List (List (List ℕ))) → Leaves old left
    → ReadRecord (λ s. Some s.now) old new found fields → new.first ≡ true → TakesRecord {E = NoMemory} (Ok found) left new fields
unfolding Reached
taken old new true fields [] leaves r first =
    let more = rows-more (λ (s : Bor (List ℕ)). Some s.now) old new fields default_config old.state leaves.text leaves.text [] leaves.config leaves.source (refl, refl) r in
    let at = more.2.1 in
    let none = rw (← leaves.records.2.0, ← leaves.records.2.1) at leaves.records.3 in
    cc
taken old new true fields (row ∷ left) leaves r first =
    let more = rows-more (λ (s : Bor (List ℕ)). Some s.now) old new fields default_config old.state leaves.text leaves.text [] leaves.config leaves.source (refl, refl) r in
    let (p, at, is, (state, text)) = more.2 in
    let (s2, ys, (q, next, same, rest), end) = leaves.records in
    let one : p ≡ q = cc in
    let left_state : q.1 ≡ new.state = cc in
    let left_text : q.2 ≡ more.0 = cc in
    (cc, record { trim = r.3 ∙ leaves.trim; ready = inl first; config = r.2 ∙ leaves.config; text = more.0; source = more.1; records = (s2, ys, rw (left_state, left_text) at rest, end) })
taken old new false fields [] leaves r first = refl
taken old new false fields (row ∷ left) leaves r first =
    let end = rows-end (λ (s : Bor (List ℕ)). Some s.now) old new fields default_config leaves.text leaves.config leaves.source r in
    let (s2, ys, (q, next, same, rest), last) = leaves.records in
    cc

pub begun : (text : List ℕ) → AreRecords default_config st.StartRecord text (records default_config text)
begun text = all_records (length text + 1) st.StartRecord text refl (omega arith)

pub few : (text : List ℕ) → length (records default_config text) ≤ length text + 1
few text = few_records (length text + 1) st.StartRecord text
