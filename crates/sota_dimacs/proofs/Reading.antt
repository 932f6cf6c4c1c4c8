-- What the lines that are left make of what was seen so far.
use Rattle.std.proofs.Common.{◌≡◌, ℕ, ◌+◌, List, [], ◌∷◌, ◌++◌, length, map, Option, Some, None, Result, option_to_list, refl, sym, ◌∙◌, ap, arith, append_assoc, append-nil, length-append}
use Rattle.std.specs.Option.{option_or}
use Rattle.std.specs.List.{cons_option, enumerate_from}
use Rattle.std.proofs.lemmas.List.Elements.{filter_map-append}
use Rattle.sota_text.specs.Text.{text_lines, numbered_lines}
use Rattle.sota_text.specs.Spans.{bytes_of}
use Rattle.sota_text.specs.declared.span.Line.{Line}
use Rattle.sota_dimacs.specs.Lines.{kind_of, line_problem, line_arc}
use Rattle.sota_dimacs.specs.Graph.{problem_in, arcs_in, line_fault, first_line_fault, or_line_fault, graph_with, graph_of_lines, graph_text}
use Rattle.sota_dimacs.specs.declared.graph.RawArc.{RawArc}
use Rattle.sota_dimacs.specs.declared.graph.RawGraph.{RawGraph}
use Rattle.sota_dimacs.specs.declared.fault.GraphFault.{GraphFault}
use Rattle.sota_dimacs.specs.declared.line.Problem.{Problem}
use Rattle.sota_dimacs.specs.declared.line.LineKind.{LineKind}

-- the graph, or the fault, of numbered lines after those that announced this problem and these arcs
abbrev pub rest_of : Option Problem → List RawArc → List (ℕ × LineKind) → Result RawGraph GraphFault
rest_of problem arcs [] = graph_with problem arcs
rest_of problem arcs (line ∷ lines) =
    or_line_fault (line_fault problem (length arcs) line.0 line.1) (rest_of (option_or problem (line_problem line.1)) (arcs ++ option_to_list (line_arc line.1)) lines)

or_assoc : {X : Type 0} (a b c : Option X) → option_or a (option_or b c) ≡ option_or (option_or a b) c
or_assoc (Some x) b c = refl
or_assoc None b c = refl

or_none : {X : Type 0} (a : Option X) → option_or a None ≡ a
or_none (Some x) = refl
or_none None = refl

problem_push : (before : List LineKind) (line : LineKind) → problem_in (before ++ line ∷ []) ≡ option_or (problem_in before) (line_problem line)
problem_push [] line = or_none (line_problem line)
problem_push (first ∷ before) line = ap (option_or (line_problem first)) (problem_push before line) ∙ or_assoc (line_problem first) (problem_in before) (line_problem line)

one_arc : (o : Option RawArc) → cons_option o [] ≡ option_to_list o
one_arc (Some arc) = refl
one_arc None = refl

arcs_push : (before : List LineKind) (line : LineKind) → arcs_in (before ++ line ∷ []) ≡ arcs_in before ++ option_to_list (line_arc line)
arcs_push before line = filter_map-append line_arc before (line ∷ []) ∙ ap (λ arcs. arcs_in before ++ arcs) (one_arc (line_arc line))

fault_first : (fault other : Option GraphFault) (a b : Result RawGraph GraphFault) → or_line_fault other a ≡ b → or_line_fault (option_or fault other) a ≡ or_line_fault fault b
fault_first (Some fault) other a b h = refl
fault_first None other a b h = h

-- the graph of lines of which some stand before
abbrev pub graph_after : List LineKind → List LineKind → List LineKind → Result RawGraph GraphFault
graph_after before lines all = or_line_fault (first_line_fault before lines) (graph_with (problem_in all) (arcs_in all))

rest_is : (before lines : List LineKind) (number : ℕ) → length before + 1 ≡ number
    → graph_after before lines (before ++ lines) ≡ rest_of (problem_in before) (arcs_in before) (enumerate_from number lines)
rest_is before [] number at = ap (λ all. graph_with (problem_in all) (arcs_in all)) (append-nil before)
rest_is before (line ∷ lines) number at =
    let after : length (before ++ line ∷ []) + 1 ≡ number + 1 = omega (arith, length-append before (line ∷ [])) in
    let rest : graph_after (before ++ line ∷ []) lines (before ++ line ∷ lines) ≡ rest_of (option_or (problem_in before) (line_problem line)) (arcs_in before ++ option_to_list (line_arc line)) (enumerate_from (number + 1) lines) =
    ap (graph_after (before ++ line ∷ []) lines) (sym (append_assoc before (line ∷ []) lines))
    ∙ rest_is (before ++ line ∷ []) lines (number + 1) after
    ∙ ap (λ problem. rest_of problem (arcs_in (before ++ line ∷ [])) (enumerate_from (number + 1) lines)) (problem_push before line)
    ∙ ap (λ arcs. rest_of (option_or (problem_in before) (line_problem line)) arcs (enumerate_from (number + 1) lines)) (arcs_push before line) in
    fault_first (line_fault (problem_in before) (length (arcs_in before)) (length before + 1) line) (first_line_fault (before ++ line ∷ []) lines) _ _ rest
    ∙ ap (λ n. or_line_fault (line_fault (problem_in before) (length (arcs_in before)) n line) (rest_of (option_or (problem_in before) (line_problem line)) (arcs_in before ++ option_to_list (line_arc line)) (enumerate_from (number + 1) lines))) at

-- all lines, where nothing was seen before
pub rest_of_all : (lines : List LineKind) → rest_of None [] (enumerate_from 1 lines) ≡ graph_of_lines lines
rest_of_all lines = sym (rest_is [] lines 1 (omega arith))

-- ---- lines at their places

abbrev pub entry_of : List ℕ → Line → ℕ × LineKind
entry_of bytes line = (line.number, kind_of (bytes_of bytes line.span))

entries : (bytes : List ℕ) (lines : List Line) (number : ℕ) (texts : List (List ℕ))
    → map (λ (line : Line). (line.number, bytes_of bytes line.span)) lines ≡ enumerate_from number texts → map (entry_of bytes) lines ≡ enumerate_from number (map kind_of texts)
entries bytes [] number [] e = refl
entries bytes [] number (text ∷ texts) e = cc
entries bytes (line ∷ lines) number [] e = cc
entries bytes (line ∷ lines) number (text ∷ texts) e =
    let rest : map (λ (line : Line). (line.number, bytes_of bytes line.span)) lines ≡ enumerate_from (number + 1) texts = cc in
    let same : (line.number, bytes_of bytes line.span) ≡ (number, text) = cc in
    let first : entry_of bytes line ≡ (number, kind_of text) = ap (λ (entry : ℕ × List ℕ). (entry.0, kind_of entry.1)) same in
    let others = entries bytes lines (number + 1) texts rest in
    ap (λ entry. entry ∷ map (entry_of bytes) lines) first ∙ ap (λ others. (number, kind_of text) ∷ others) others

pub rest_of_text : (bytes : List ℕ) (lines : List Line) → map (λ (line : Line). (line.number, bytes_of bytes line.span)) lines ≡ numbered_lines bytes
    → rest_of None [] (map (entry_of bytes) lines) ≡ graph_text bytes
rest_of_text bytes lines texts = ap (rest_of None []) (entries bytes lines 1 (text_lines bytes) texts) ∙ rest_of_all (map kind_of (text_lines bytes))
