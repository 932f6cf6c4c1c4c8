-- Outputs that were begun: their text and their files by themselves.
use Rattle.std.proofs.Common.{◌≡◌, ℕ, suc, ◌+◌, ◌≤◌, ◌++◌, List, [], ◌∷◌, length, take}
use Rattle.std.proofs.Common.{Option, Some, None, sym, ◌∙◌, ap, subst, arith}
use Rattle.std.proofs.Common.{append_assoc, append-nil, length-append, inl, inr}
use Rattle.std.proofs.lemmas.List.{take-append-le}
use Rattle.std.specs.Option.{IsSomeAnd}
use Rattle.sota_edge.specs.Desk.{Files}
use Rattle.sota_edge.specs.Sink.{SinkState, Wrote, WrotePrefix}
use Rattle.sota_app.specs.Outputs.{Output, text_of, stores_of, Made, FileMissed, NextBegun, Begun}
use Rattle.sota_app.specs.Laws.{FirstStored}
use Rattle.sota_app.specs.declared.reply.NamedFile.{NamedFile}
use Rattle.sota_app.proofs.Made.{text_append, stores_append}

take_into : (a b : List ℕ) (n : ℕ) → take (length a + n) (a ++ b) ≡ a ++ take n b
take_into [] b n = let e : 0 + n ≡ n = omega arith in ap (λ k. take k b) e
take_into (x ∷ a) b n =
    let e : length (x ∷ a) + n ≡ suc (length a + n) = omega arith in
    ap (λ k. take k (x ∷ a ++ b)) e ∙ ap (λ rest. x ∷ rest) (take_into a b n)

-- a text and the first bytes of what is after it
begins : (a b : List ℕ) (n : ℕ) (s t : SinkState) → n ≤ length b → Wrote (a ++ take n b) s t
    → WrotePrefix (a ++ b) s t
begins a b n s t within wrote = (
  length a + n,
  omega (arith, length-append a b, within),
  subst (λ text. Wrote text s t) (sym (take_into a b n)) wrote,
)

whole_begins : (a b : List ℕ) (s t : SinkState) → Wrote a s t → WrotePrefix (a ++ b) s t
whole_begins a b s t wrote =
    begins a b 0 s t (omega arith) (subst (λ text. Wrote text s t) (sym (append-nil a)) wrote)

-- the file of the next output was missed
missed_text : (made : List Output) (rest : List ℕ) (file : Option NamedFile)
    (old new : Option Files) (s t : SinkState)
    → IsSomeAnd file (λ file. FileMissed made file old new s t)
    → WrotePrefix (text_of made ++ rest) s t
missed_text made rest None old new s t h = absurd h
missed_text made rest (Some file) old new s t h = whole_begins (text_of made) rest s t h.text

next_text : (Cause : Type 0) (made left : List Output) (old new : Option Files) (s t : SinkState)
    → NextBegun Cause made left old new s t → WrotePrefix (text_of made ++ text_of left) s t
next_text Cause made [] old new s t h = whole_begins (text_of made) [] s t h.text
next_text Cause made (next ∷ left) old new s t h = elim h [
  | inl all ↦ whole_begins (text_of made) (text_of (next ∷ left)) s t all.text
  | inr more ↦ elim more [
    | inl line ↦
        begins (text_of made) (next.line ++ text_of left) line.count s t
        (omega (arith, length-append next.line (text_of left), line.within))
        (subst (λ text. Wrote (text_of made ++ text) s t)
        (sym (take-append-le line.count next.line (text_of left) line.within)) line.text)
    | inr file ↦ missed_text made (text_of (next ∷ left)) next.file old new s t file.1
  ]
]

pub text_begun : (Cause : Type 0) (outputs : List Output) (old new : Option Files)
    (s t : SinkState) → Begun Cause outputs old new s t → WrotePrefix (text_of outputs) s t
text_begun Cause outputs old new s t begun =
    subst (λ text. WrotePrefix text s t)
    (sym (ap text_of begun.all ∙ text_append begun.made begun.left))
    (next_text Cause begun.made begun.left old new s t begun.next)

-- ---- files

-- the file of the next output was missed, and those of the others after it too
missed_stores : (Cause : Type 0) (made left : List Output) (line : List ℕ)
    (file : Option NamedFile) (old new : Option Files) (s t : SinkState) → Cause
    → IsSomeAnd file (λ file. FileMissed made file old new s t)
    → FirstStored Cause (stores_of (made ++ record { file = file; line = line } ∷ left)) old new
missed_stores Cause made left line None old new s t cause h = absurd h
missed_stores Cause made left line (Some file) old new s t cause h = record {
  stored = stores_of made;
  left = file ∷ stores_of left;
  all = stores_append made (record { file = Some file; line = line } ∷ left);
  held = inr (cause, h.others);
}

made_stores : (Cause : Type 0) (made left : List Output) (old new : Option Files) (s t : SinkState)
    → Made made old new s t → FirstStored Cause (stores_of (made ++ left)) old new
made_stores Cause made left old new s t h = record {
  stored = stores_of made;
  left = stores_of left;
  all = stores_append made left;
  held = inl h.stores;
}

next_stores : (Cause : Type 0) (made left : List Output) (old new : Option Files) (s t : SinkState)
    → NextBegun Cause made left old new s t → FirstStored Cause (stores_of (made ++ left)) old new
next_stores Cause made [] old new s t h = made_stores Cause made [] old new s t h
next_stores Cause made (next ∷ left) old new s t h = elim h [
  | inl all ↦ made_stores Cause made (next ∷ left) old new s t all
  | inr more ↦ elim more [
    | inl line ↦ record {
      stored = stores_of (made ++ next ∷ []);
      left = stores_of left;
      all = ap stores_of (sym (append_assoc made (next ∷ []) left))
          ∙ stores_append (made ++ next ∷ []) left;
      held = inl line.stores;
    }
    | inr file ↦ missed_stores Cause made left next.line next.file old new s t file.0 file.1
  ]
]

pub stores_begun : (Cause : Type 0) (outputs : List Output) (old new : Option Files)
    (s t : SinkState) → Begun Cause outputs old new s t
    → FirstStored Cause (stores_of outputs) old new
stores_begun Cause outputs old new s t begun =
    subst (λ (outputs : List Output). FirstStored Cause (stores_of outputs) old new)
    (sym begun.all) (next_stores Cause begun.made begun.left old new s t begun.next)
