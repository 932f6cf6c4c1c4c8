-- Outputs after others: what was made of both.
use Rattle.std.proofs.Common.{◌≡◌, ℕ, ◌≤◌, ◌++◌, List, [], ◌∷◌, take}
use Rattle.std.proofs.Common.{Option, Some, None, option_map, option_to_list, Result, Ok, Err}
use Rattle.std.proofs.Common.{refl, sym, ◌∙◌, ap, subst, arith, append_assoc, append-nil, inl, inr}
use Rattle.std.proofs.lemmas.List.Sums.{fold-append}
use Rattle.std.proofs.lemmas.List.Concat.{flat_map-append}
use Rattle.std.specs.Option.{IsSomeAnd}
use Rattle.sota_edge.specs.Counts.{Rose}
use Rattle.sota_edge.specs.Desk.{Files, DeskState, SameBut, stored}
use Rattle.sota_edge.specs.Sink.{SinkState, Wrote, WrotePrefix, appended}
use Rattle.sota_app.specs.declared.reply.NamedFile.{NamedFile}
use Rattle.sota_app.specs.declared.stop.Stop.{Stop}
use Rattle.sota_app.specs.declared.stop.Stop.TheVariants as stops
use Rattle.sota_app.specs.Outputs.{Output, text_of, stores_of, all_stored, held_after, only_line}
use Rattle.sota_app.specs.Outputs.{Made, FileMissed, LineBegun, NextBegun, Begun, StoreMissed}
use Rattle.sota_app.specs.Outputs.{Stopped, Ends, FileEnds, LineEnds}

-- results of playing
abbrev pub done : {A : Type 0} → A → Result A Stop
done value = Ok value

abbrev pub stopped_by : (A : Type 0) → Stop → Result A Stop
stopped_by A stop = Err stop

pub text_append : (a b : List Output) → text_of (a ++ b) ≡ text_of a ++ text_of b
text_append a b = flat_map-append (λ (output : Output). output.line) a b

pub stores_append : (a b : List Output) → stores_of (a ++ b) ≡ stores_of a ++ stores_of b
stores_append a b = flat_map-append (λ (output : Output). option_to_list output.file) a b

pub held_append : (a b : List Output) (held : Option Files)
    → held_after (a ++ b) held ≡ held_after b (held_after a held)
held_append a b None = refl
held_append a b (Some files) =
    ap (λ stores. Some (all_stored stores files)) (stores_append a b)
    ∙ ap Some (fold-append (λ (held : Files) (file : NamedFile). stored file.name file.bytes held)
    files (stores_of a) (stores_of b))

wrote_append : (written : Option (List ℕ)) (a b : List ℕ)
    → appended (appended written a) b ≡ appended written (a ++ b)
wrote_append None a b = refl
wrote_append (Some text) a b = ap Some (append_assoc text a b)

-- a text after another
wrote_both : (a b : List ℕ) (s u t : SinkState) → Wrote a s u → Wrote b u t → Wrote (a ++ b) s t
wrote_both a b s u t first second =
    second ∙ ap (λ (written : Option (List ℕ)). appended written b) first
    ∙ wrote_append s.written a b

-- ---- nothing

pub wrote_nothing : (written : Option (List ℕ)) → written ≡ appended written []
wrote_nothing None = refl
wrote_nothing (Some text) = ap Some (sym (append-nil text))

held_nothing : (held : Option Files) → held ≡ held_after [] held
held_nothing None = refl
held_nothing (Some files) = refl

-- where nothing changed, nothing was made
pub none_made : (old new : Option Files) (s t : SinkState) → new ≡ old → t ≡ s
    → Made [] old new s t
none_made old new s t held same = record {
  text = ap (λ (u : SinkState). u.written) same ∙ wrote_nothing s.written;
  stores = held ∙ held_nothing old;
}

made_begun : (Cause : Type 0) (made left : List Output) (old new : Option Files)
    (s t : SinkState) → Made made old new s t → NextBegun Cause made left old new s t
made_begun Cause made [] old new s t h = h
made_begun Cause made (next ∷ left) old new s t h = inl h

-- some outputs of those were made, and no others
pub begun_by : (Cause : Type 0) (outputs : List Output) (old new : Option Files) (s t : SinkState)
    → Made outputs old new s t → Begun Cause outputs old new s t
begun_by Cause outputs old new s t h =
    record { made = outputs; left = []; all = sym (append-nil outputs); next = h }

pub none_begun : (Cause : Type 0) (outputs : List Output) (old new : Option Files)
    (s t : SinkState) → new ≡ old → t ≡ s → Begun Cause outputs old new s t
none_begun Cause outputs old new s t held same = record {
  made = [];
  left = outputs;
  all = refl;
  next = made_begun Cause [] outputs old new s t (none_made old new s t held same);
}

-- ---- outputs after others

pub made_then : (a b : List Output) (old mid new : Option Files) (s u t : SinkState)
    → Made a old mid s u → Made b mid new u t → Made (a ++ b) old new s t
made_then a b old mid new s u t first second = record {
  text = subst (λ text. Wrote text s t) (sym (text_append a b))
      (wrote_both (text_of a) (text_of b) s u t first.text second.text);
  stores = second.stores ∙ ap (held_after b) first.stores ∙ sym (held_append a b old);
}

missed_then : (a b : List Output) (file : NamedFile) (old mid new : Option Files)
    (s u t : SinkState) → Made a old mid s u → FileMissed b file mid new u t
    → FileMissed (a ++ b) file old new s t
missed_then a b file old mid new s u t first missed = record {
  text = subst (λ text. Wrote text s t) (sym (text_append a b))
      (wrote_both (text_of a) (text_of b) s u t first.text missed.text);
  others = subst (λ (held : Option Files). SameBut file.name held new)
      (ap (held_after b) first.stores ∙ sym (held_append a b old)) missed.others;
}

line_then : (a b : List Output) (next : Output) (old mid new : Option Files) (s u t : SinkState)
    → Made a old mid s u → LineBegun b next mid new u t → LineBegun (a ++ b) next old new s t
line_then a b next old mid new s u t first begun = record {
  count = begun.count;
  within = begun.within;
  text = subst (λ text. Wrote text s t)
      (sym (append_assoc (text_of a) (text_of b) (take begun.count next.line))
      ∙ ap (λ text. text ++ take begun.count next.line) (sym (text_append a b)))
      (wrote_both (text_of a) (text_of b ++ take begun.count next.line) s u t first.text
      begun.text);
  stores = begun.stores ∙ ap (held_after (b ++ next ∷ [])) first.stores
      ∙ sym (held_append a (b ++ next ∷ []) old)
      ∙ ap (λ outputs. held_after outputs old) (sym (append_assoc a b (next ∷ [])));
}

file_then : (a b : List Output) (file : Option NamedFile) (old mid new : Option Files)
    (s u t : SinkState) → Made a old mid s u
    → IsSomeAnd file (λ file. FileMissed b file mid new u t)
    → IsSomeAnd file (λ file. FileMissed (a ++ b) file old new s t)
file_then a b None old mid new s u t first h = absurd h
file_then a b (Some file) old mid new s u t first h = missed_then a b file old mid new s u t first h

next_then : (Cause : Type 0) (a b left : List Output) (old mid new : Option Files)
    (s u t : SinkState) → Made a old mid s u → NextBegun Cause b left mid new u t
    → NextBegun Cause (a ++ b) left old new s t
next_then Cause a b [] old mid new s u t first h = made_then a b old mid new s u t first h
next_then Cause a b (next ∷ left) old mid new s u t first h = elim h [
  | inl made ↦ inl (made_then a b old mid new s u t first made)
  | inr more ↦ elim more [
    | inl line ↦ inr (inl (line_then a b next old mid new s u t first line))
    | inr file ↦ inr (inr (file.0, file_then a b next.file old mid new s u t first file.1))
  ]
]

begun_then : (Cause : Type 0) (a b : List Output) (old mid new : Option Files) (s u t : SinkState)
    → Made a old mid s u → Begun Cause b mid new u t → Begun Cause (a ++ b) old new s t
begun_then Cause a b old mid new s u t first begun = record {
  made = a ++ begun.made;
  left = begun.left;
  all = ap (λ rest. a ++ rest) begun.all ∙ sym (append_assoc a begun.made begun.left);
  next = next_then Cause a begun.made begun.left old mid new s u t first begun.next;
}

store_then : (a b : List Output) (old mid : Option Files) (desk : DeskState) (s u t : SinkState)
    → Made a old mid s u → StoreMissed b mid desk u t → StoreMissed (a ++ b) old desk s t
store_then a b old mid desk s u t first missed = record {
  made = a ++ missed.made;
  file = missed.file;
  line = missed.line;
  left = missed.left;
  all = ap (λ rest. a ++ rest) missed.all ∙ sym (append_assoc a missed.made _);
  name = missed.name;
  missed = missed_then a missed.made missed.file old mid desk.holds s u t first missed.missed;
}

rose_later : (a b c : ℕ) → a ≤ b → Rose b c → Rose a c
rose_later a b c h rose = omega arith

pub ends_then : {A B : Type 0} (first : A) (result : Result B Stop) (a b : List Output)
    (d m e : DeskState) (s u t : SinkState)
    → Ends (done first) a d m s u → Ends result b m e u t → Ends result (a ++ b) d e s t
ends_then first (Ok value) a b d m e s u t made ends = (
  made_then a b d.holds m.holds e.holds s u t made.0 ends.0,
  omega (arith, made.1, ends.1),
  omega (arith, made.2, ends.2),
)
ends_then first (Err stops.PutFailed) a b d m e s u t made ends = (
  rose_later s.faults u.faults t.faults made.2 ends.0,
  begun_then ⊥ a b d.holds m.holds e.holds s u t made.0 ends.1,
)
ends_then first (Err stops.StoreFailed) a b d m e s u t made ends = (
  rose_later d.store_faults m.store_faults e.store_faults made.1 ends.0,
  store_then a b d.holds m.holds e s u t made.0 ends.1,
)
ends_then first (Err stops.NoMemory) a b d m e s u t made ends =
    begun_then (Unit {0}) a b d.holds m.holds e.holds s u t made.0 ends

-- ---- outputs before others

next_more : (Cause : Type 0) (made left more : List Output) (old new : Option Files)
    (s t : SinkState) → NextBegun Cause made left old new s t
    → NextBegun Cause made (left ++ more) old new s t
next_more Cause made [] more old new s t h = made_begun Cause made more old new s t h
next_more Cause made (next ∷ left) more old new s t h = h

begun_more : (Cause : Type 0) (a more : List Output) (old new : Option Files) (s t : SinkState)
    → Begun Cause a old new s t → Begun Cause (a ++ more) old new s t
begun_more Cause a more old new s t begun = record {
  made = begun.made;
  left = begun.left ++ more;
  all = ap (λ outputs. outputs ++ more) begun.all ∙ append_assoc begun.made begun.left more;
  next = next_more Cause begun.made begun.left more old new s t begun.next;
}

pub stopped_more : (stop : Stop) (a more : List Output) (d e : DeskState) (s t : SinkState)
    → Stopped stop a d e s t → Stopped stop (a ++ more) d e s t
stopped_more stops.PutFailed a more d e s t h =
    (h.0, begun_more ⊥ a more d.holds e.holds s t h.1)
stopped_more stops.StoreFailed a more d e s t h = (
  h.0,
  record {
    made = h.1.made;
    file = h.1.file;
    line = h.1.line;
    left = h.1.left ++ more;
    all = ap (λ outputs. outputs ++ more) h.1.all ∙ append_assoc h.1.made _ more;
    name = h.1.name;
    missed = h.1.missed;
  },
)
stopped_more stops.NoMemory a more d e s t h = begun_more (Unit {0}) a more d.holds e.holds s t h

-- want of memory before anything was done
pub nothing_made : (outputs : List Output) (d e : DeskState) (s t : SinkState) → e ≡ d → t ≡ s
    → Stopped stops.NoMemory outputs d e s t
nothing_made outputs d e s t desk sink =
    none_begun (Unit {0}) outputs d.holds e.holds s t (ap (λ (x : DeskState). x.holds) desk) sink

-- ---- one output

-- a line that was begun, with what is before it
line_begun : (next : Output) (old new : Option Files) (s t : SinkState)
    → new ≡ held_after (next ∷ []) old → WrotePrefix next.line s t
    → LineBegun [] next old new s t
line_begun next old new s t held wrote =
    record { count = wrote.0; within = wrote.1; text = wrote.2; stores = held }

begun_line : (Cause : Type 0) (next : Output) (old new : Option Files) (s t : SinkState)
    → new ≡ held_after (next ∷ []) old → WrotePrefix next.line s t
    → Begun Cause (next ∷ []) old new s t
begun_line Cause next old new s t held wrote = record {
  made = [];
  left = next ∷ [];
  all = refl;
  next = inr (inl (line_begun next old new s t held wrote));
}

wrote_line : (line : List ℕ) (s t : SinkState) → Wrote line s t → Wrote (line ++ []) s t
wrote_line line s t h = subst (λ text. Wrote text s t) (sym (append-nil line)) h

-- the file was stored, where there is one, and how the writing of the line ended
pub line_ends : {A : Type 0} (result : Result A Stop) (next : Output) (d e : DeskState)
    (s t : SinkState) → e.holds ≡ held_after (next ∷ []) d.holds
    → d.store_faults ≤ e.store_faults
    → LineEnds result next.line s t → Ends result (next ∷ []) d e s t
line_ends (Ok value) next d e s t held calm h =
    (record { text = wrote_line next.line s t h.0; stores = held }, calm, h.1)
line_ends (Err stops.PutFailed) next d e s t held calm h =
    (h.1, begun_line ⊥ next d.holds e.holds s t held h.0)
line_ends (Err stops.StoreFailed) next d e s t held calm h = absurd h
line_ends (Err stops.NoMemory) next d e s t held calm h =
    begun_line (Unit {0}) next d.holds e.holds s t held h

-- a line without a file
pub only_made : (line : List ℕ) (old new : Option Files) (s t : SinkState) → new ≡ old
    → Wrote line s t → Made (only_line line) old new s t
only_made line old new s t held h =
    record { text = wrote_line line s t h; stores = held ∙ held_nothing old }

pub only_line_ends : {A : Type 0} (result : Result A Stop) (line : List ℕ) (d e : DeskState)
    (s t : SinkState) → e.holds ≡ d.holds → d.store_faults ≤ e.store_faults
    → LineEnds result line s t → Ends result (only_line line) d e s t
only_line_ends result line d e s t held calm h =
    line_ends result (record { file = None; line = line }) d e s t
    (held ∙ held_nothing d.holds) calm h

-- a line, while the desk stays as it is
pub last_ends : {A : Type 0} (result : Result A Stop) (line : List ℕ) (d : DeskState)
    (s t : SinkState) → LineEnds result line s t → Ends result (only_line line) d d s t
last_ends result line d s t h = only_line_ends result line d d s t refl (omega arith) h

-- the file of one output, stored
one_held : (file : NamedFile) (line : List ℕ) (held : Option Files)
    → option_map (stored file.name file.bytes) held
    ≡ held_after (record { file = Some file; line = line } ∷ []) held
one_held file line None = refl
one_held file line (Some files) = refl

-- its file was stored
pub stored_ends : {A : Type 0} (result : Result A Stop) (has : Option NamedFile)
    (file : NamedFile) (line : List ℕ) (d e : DeskState) (s t : SinkState) → has ≡ Some file
    → FileEnds (done (tt {0})) file d e → LineEnds result line s t
    → Ends result (record { file = has; line = line } ∷ []) d e s t
stored_ends result has file line d e s t is ended h =
    subst
    (λ (has : Option NamedFile). Ends result (record { file = has; line = line } ∷ []) d e s t)
    (sym is)
    (line_ends result (record { file = Some file; line = line }) d e s t
    (ended.0 ∙ one_held file line d.holds) ended.1 h)

-- its file was not stored
file_ends : (stop : Stop) (file : NamedFile) (line : List ℕ) (d e : DeskState)
    (s : SinkState) → FileEnds (stopped_by (Unit {0}) stop) file d e
    → Stopped stop (record { file = Some file; line = line } ∷ []) d e s s
file_ends stops.PutFailed file line d e s h = absurd h
file_ends stops.StoreFailed file line d e s h = (
  h.1,
  record {
    made = [];
    file = file;
    line = line;
    left = [];
    all = refl;
    name = h.2;
    missed = record {
      text = wrote_nothing s.written;
      others = subst (λ (held : Option Files). SameBut file.name held e.holds)
          (held_nothing d.holds) h.0;
    };
  },
)
file_ends stops.NoMemory file line d e s h = record {
  made = [];
  left = record { file = Some file; line = line } ∷ [];
  all = refl;
  next = inr (inr (
    tt,
    record {
      text = wrote_nothing s.written;
      others = subst (λ (held : Option Files). SameBut file.name held e.holds)
          (held_nothing d.holds) h;
    },
  ));
}

pub not_stored_ends : (stop : Stop) (has : Option NamedFile) (file : NamedFile) (line : List ℕ)
    (d e : DeskState) (s : SinkState) → has ≡ Some file
    → FileEnds (stopped_by (Unit {0}) stop) file d e
    → Stopped stop (record { file = has; line = line } ∷ []) d e s s
not_stored_ends stop has file line d e s is h =
    subst
    (λ (has : Option NamedFile). Stopped stop (record { file = has; line = line } ∷ []) d e s s)
    (sym is) (file_ends stop file line d e s h)
