-- The lines of a script by their places.
use Rattle.std.proofs.Common.{◌≡◌, ℕ, List, [], ◌∷◌, ◌++◌, map, ap, sym, ◌∙◌, refl, append_assoc}
use Rattle.std.proofs.lemmas.List.{map-append}
use Rattle.sota_text.specs.Text.{numbered_lines}
use Rattle.sota_text.specs.Spans.{bytes_of}
use Rattle.sota_text.specs.declared.span.Line.{Line}
use Rattle.sota_app.specs.Script.{ScriptLine, script_line, script_lines}
use Rattle.sota_app.specs.declared.voice.Voice.{Voice}

abbrev pub numbered_at : List ℕ → Line → ℕ × List ℕ
numbered_at script line = (line.number, bytes_of script line.span)

-- the line at a place
abbrev pub line_at : Voice → List ℕ → Line → ScriptLine
line_at voice script line = script_line voice (numbered_at script line)

maps : (voice : Voice) (script : List ℕ) (lines : List Line)
    → map (line_at voice script) lines ≡ map (script_line voice) (map (numbered_at script) lines)
maps voice script [] = refl
maps voice script (line ∷ lines) =
    ap (λ rest. line_at voice script line ∷ rest) (maps voice script lines)

pub all_lines : (voice : Voice) (script : List ℕ) (lines : List Line)
    → map (numbered_at script) lines ≡ numbered_lines script
    → script_lines voice script ≡ map (line_at voice script) lines
all_lines voice script lines e = sym (maps voice script lines ∙ ap (map (script_line voice)) e)

-- one line more is played
pub line_played : (voice : Voice) (script : List ℕ) (before : List Line) (line : Line) (after : List Line)
    (lines : List ScriptLine)
    → lines ≡ map (line_at voice script) before ++ map (line_at voice script) (line ∷ after)
    → lines ≡ map (line_at voice script) (before ++ line ∷ []) ++ map (line_at voice script) after
line_played voice script before line after lines e =
    e
    ∙ sym (append_assoc (map (line_at voice script) before) (line_at voice script line ∷ [])
    (map (line_at voice script) after))
    ∙ ap (λ front. front ++ map (line_at voice script) after)
    (sym (map-append (line_at voice script) before (line ∷ [])))
