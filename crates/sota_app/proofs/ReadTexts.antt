-- An input that was loaded and then read.
use Rattle.std.proofs.Common.{◌≡◌, ℕ, List, Bool, false, if◌then◌else◌, Result, Ok, Err, refl}
use Rattle.std.proofs.Common.{◌∙◌, inl}
use Rattle.sota_units.specs.Memory.{◌>>=◌}
use Rattle.sota_edge.specs.Desk.{Files, DeskState}
use Rattle.sota_dimacs.specs.declared.graph.RawGraph.{RawGraph}
use Rattle.sota_network.specs.Network.{Net}
use Rattle.sota_app.specs.Outcome.{input_bytes, read_hists, is_dash, with_hists}
use Rattle.sota_app.specs.Causes.{Known, UnreadHists}
use Rattle.sota_app.specs.Inputs.{OnlyTook, TextAnswers, InputAnswers}
use Rattle.sota_app.specs.declared.input.NoInput.{NoInput}
use Rattle.sota_app.specs.declared.input.NoInput.TheVariants as ends
use Rattle.sota_app.specs.declared.input.Input.TheVariants as inputs
use Rattle.sota_app.proofs.Known.{known_map}

-- a text that is what the files mean was read
text_read : {A : Type 0} (result text : Result A NoInput) (meaning : Files → Result A NoInput)
    (Missed : DeskState → DeskState → Type 0) (d e : DeskState) → OnlyTook d e
    → Known d (λ files. meaning files ≡ text) → TextAnswers result text
    → InputAnswers (λ (value : A). value) result meaning Missed d e
text_read (Ok value) text meaning Missed d e took known read =
    (took, known_map d.holds _ _ (λ files same. same ∙ read) known)
text_read (Err (ends.Fault fault)) text meaning Missed d e took known read =
    (took, inl read.1, known_map d.holds _ _ (λ files same. same ∙ read.0) known)
text_read (Err ends.Unread) text meaning Missed d e took known read = absurd read
text_read (Err ends.NoMemory) text meaning Missed d e took known read = took.holds

-- bytes that are there, read
bytes_read : {A : Type 0} (loaded : Result (List ℕ) NoInput) (read : List ℕ → Result A NoInput)
    (bytes : List ℕ) → loaded ≡ Ok bytes → (loaded >>= read) ≡ read bytes
bytes_read loaded read bytes is = rw is refl

word_is : {A : Type 0} (word : Bool) (certain read : A) → word ≡ false
    → (if word then certain else read) ≡ read
word_is word certain read is = rw is refl

pub hists_read : (name : List ℕ) (graph : RawGraph) (bytes : List ℕ) (result : Result Net NoInput)
    (d e : DeskState) → is_dash name ≡ false → OnlyTook d e
    → Known d (λ files. input_bytes inputs.Hists (files name) ≡ Ok bytes)
    → TextAnswers result (read_hists graph bytes)
    → InputAnswers (λ (net : Net). net) result (λ files. with_hists name files graph)
    (UnreadHists name) d e
hists_read name graph bytes result d e word took known read =
    text_read result (read_hists graph bytes) (λ files. with_hists name files graph)
    (UnreadHists name) d e took
    (known_map d.holds _ _ (λ files is. word_is (is_dash name) _ _ word
    ∙ bytes_read (input_bytes inputs.Hists (files name)) (read_hists graph) bytes is) known)
    read
