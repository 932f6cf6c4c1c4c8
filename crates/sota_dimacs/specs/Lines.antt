-- What a line of a graph text is by itself. The kinds are those of the DIMACS shortest-path format.
use Rattle.std.specs.Prelude.{ℕ, List, [], ◌∷◌, Bool, ◌==◌, slice_index, codes}
use Rattle.std.specs.Prelude.{Option, Some, None, option_and_then, if◌then◌else◌}
use Rattle.std.specs.Str.{bytes_eq}
use Rattle.sota_text.specs.Text.{fields_of, number_of}
use Rattle.sota_text.specs.Words.{three}
use Rattle.sota_dimacs.specs.declared.graph.RawArc.{RawArc}
use Rattle.sota_dimacs.specs.declared.line.Problem.{Problem}
use Rattle.sota_dimacs.specs.declared.line.LineKind.{LineKind}
use Rattle.sota_dimacs.specs.declared.line.LineKind.TheVariants.{Skipped, ProblemLine, ArcLine}
use Rattle.sota_dimacs.specs.declared.line.LineKind.TheVariants.{Unknown}

-- a problem of two numbers, where both are there
abbrev pub problem_of : Option ℕ → Option ℕ → Option Problem
problem_of (Some nodes) (Some arcs) = Some (record { nodes = nodes; arcs = arcs })
problem_of _ _ = None

-- an arc of three numbers, where all are there
abbrev pub raw_arc_of : Option ℕ → Option ℕ → Option ℕ → Option RawArc
raw_arc_of (Some tail) (Some head) (Some weight) =
    Some (record { tail = tail; head = head; weight = weight })
raw_arc_of _ _ _ = None

-- 'sp N M' after the 'p': N nodes and M arcs
abbrev pub parse_problem : List (List ℕ) → Option Problem
parse_problem words = option_and_then (λ word.
    if bytes_eq word.0 (codes "sp") then problem_of (number_of word.1) (number_of word.2)
    else None) (three words)

-- 'U V W' after the 'a': an arc from U to V with weight W
abbrev pub parse_arc : List (List ℕ) → Option RawArc
parse_arc words = option_and_then (λ word.
    raw_arc_of (number_of word.0) (number_of word.1) (number_of word.2)) (three words)

-- comments begin with a 'c'
abbrev pub begins_comment : List ℕ → Bool
begins_comment first = slice_index first 0 == 99

-- by the first field: none or one that begins with 'c', 'p', 'a', or another
abbrev pub kind_by : List (List ℕ) → LineKind
kind_by [] = Skipped
kind_by (first ∷ words) =
    if begins_comment first then Skipped
    else (if bytes_eq first (codes "p") then ProblemLine (parse_problem words)
    else (if bytes_eq first (codes "a") then ArcLine (parse_arc words) else Unknown))

abbrev pub kind_of : List ℕ → LineKind
kind_of line = kind_by (fields_of line)

-- the problem of a line, none where it is no problem line or has none
abbrev pub line_problem : LineKind → Option Problem
line_problem (ProblemLine problem) = problem
line_problem _ = None

-- the arc of a line, none where it is no arc line or has none
abbrev pub line_arc : LineKind → Option RawArc
line_arc (ArcLine arc) = arc
line_arc _ = None
