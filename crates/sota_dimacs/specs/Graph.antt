-- Graph texts: the lines are tried in order, and the first fault found is the text's.
use Rattle.std.specs.Prelude.{◌≡◌, ℕ, ◌+◌, ◌≤◌, nat_lt, Bool, true, false, ◌==◌, ◌&&◌}
use Rattle.std.specs.Prelude.{List, [], ◌∷◌, ◌++◌, All, length, map, filter}
use Rattle.std.specs.Prelude.{Option, Some, None, Result, Ok, Err, if◌then◌else◌}
use Rattle.std.specs.List.{filter_map}
use Rattle.std.specs.Option.{option_or}
use Rattle.sota_units.specs.Ids.{is_node_number}
use Rattle.sota_units.specs.Limits.{NODE_LIMIT, ARC_LIMIT}
use Rattle.sota_text.specs.Text.{text_lines}
use Rattle.sota_dimacs.specs.Lines.{kind_of, line_problem, line_arc}
use Rattle.sota_dimacs.specs.declared.graph.RawArc.{RawArc}
use Rattle.sota_dimacs.specs.declared.graph.RawGraph.{RawGraph}
use Rattle.sota_dimacs.specs.declared.fault.GraphFault.{GraphFault}
use Rattle.sota_dimacs.specs.declared.fault.GraphFault.TheVariants.{NoProblem, SecondProblem}
use Rattle.sota_dimacs.specs.declared.fault.GraphFault.TheVariants.{BadLine, NodeRange}
use Rattle.sota_dimacs.specs.declared.fault.GraphFault.TheVariants.{ArcBeforeProblem, TooManyArcs}
use Rattle.sota_dimacs.specs.declared.fault.GraphFault.TheVariants.{TooFewArcs, TooManyNodes}
use Rattle.sota_dimacs.specs.declared.fault.GraphFault.TheVariants.{ArcLimit}
use Rattle.sota_dimacs.specs.declared.line.Problem.{Problem}
use Rattle.sota_dimacs.specs.declared.line.LineKind.{LineKind}
use Rattle.sota_dimacs.specs.declared.line.LineKind.TheVariants.{Skipped, ProblemLine, ArcLine}
use Rattle.sota_dimacs.specs.declared.line.LineKind.TheVariants.{Unknown}

-- ---- what several lines hold

-- their problem: that of the first problem line
abbrev pub problem_in : List LineKind → Option Problem
problem_in [] = None
problem_in (line ∷ lines) = option_or (line_problem line) (problem_in lines)

-- their arcs: arc e is that of the e-th arc line
abbrev pub arcs_in : List LineKind → List RawArc
arcs_in lines = filter_map line_arc lines

-- ---- faults

-- a graph has a node
abbrev pub problem_size_fault : ℕ → Problem → Option GraphFault
problem_size_fault number problem =
    if problem.nodes == 0 then Some (BadLine number)
    else (if nat_lt NODE_LIMIT problem.nodes then Some (TooManyNodes problem.nodes)
    else (if nat_lt ARC_LIMIT problem.arcs then Some (ArcLimit problem.arcs) else None))

abbrev pub arc_range_fault : Problem → ℕ → ℕ → RawArc → Option GraphFault
arc_range_fault problem found number arc =
    if is_node_number problem.nodes arc.tail && is_node_number problem.nodes arc.head
    then (if nat_lt found problem.arcs then None else Some (TooManyArcs number))
    else Some (NodeRange number)

abbrev pub problem_line_fault : Option Problem → ℕ → Option Problem → Option GraphFault
problem_line_fault (Some before) number problem = Some (SecondProblem number)
problem_line_fault None number (Some problem) = problem_size_fault number problem
problem_line_fault None number None = Some (BadLine number)

abbrev pub arc_line_fault : Option Problem → ℕ → ℕ → Option RawArc → Option GraphFault
arc_line_fault None found number arc = Some (ArcBeforeProblem number)
arc_line_fault (Some problem) found number (Some arc) = arc_range_fault problem found number arc
arc_line_fault (Some problem) found number None = Some (BadLine number)

-- the fault of the line of this number, after lines with this problem and so many arcs
abbrev pub line_fault : Option Problem → ℕ → ℕ → LineKind → Option GraphFault
line_fault problem found number Skipped = None
line_fault problem found number (ProblemLine line) = problem_line_fault problem number line
line_fault problem found number (ArcLine line) = arc_line_fault problem found number line
line_fault problem found number Unknown = Some (BadLine number)

-- the fault of the first line that has one, of lines that stand after others; lines are counted
-- from 1
abbrev pub first_line_fault : List LineKind → List LineKind → Option GraphFault
first_line_fault before [] = None
first_line_fault before (line ∷ lines) =
    let number = length before + 1 in
    option_or (line_fault (problem_in before) (length (arcs_in before)) number line)
    (first_line_fault (before ++ line ∷ []) lines)

-- ---- the whole text

-- the graph of a problem and arcs without a fault of a line, or the fault of the whole
abbrev pub graph_with : Option Problem → List RawArc → Result RawGraph GraphFault
graph_with None arcs = Err NoProblem
graph_with (Some problem) arcs =
    if nat_lt (length arcs) problem.arcs then Err (TooFewArcs (length arcs))
    else Ok (record { nodes = problem.nodes; arcs = arcs })

-- a line's fault comes before those of the whole
abbrev pub or_line_fault : Option GraphFault → Result RawGraph GraphFault
    → Result RawGraph GraphFault
or_line_fault (Some fault) graph = Err fault
or_line_fault None graph = graph

abbrev pub graph_of_lines : List LineKind → Result RawGraph GraphFault
graph_of_lines lines =
    or_line_fault (first_line_fault [] lines) (graph_with (problem_in lines) (arcs_in lines))

abbrev pub text_kinds : List ℕ → List LineKind
text_kinds bytes = map kind_of (text_lines bytes)

-- the graph of a text, or its fault
abbrev pub graph_text : List ℕ → Result RawGraph GraphFault
graph_text bytes = graph_of_lines (text_kinds bytes)

-- ---- graphs

abbrev pub IsNodeNumber : ℕ → ℕ → Type 0
IsNodeNumber nodes node = (1 ≤ node) × (node ≤ nodes)

-- a graph within the limits: 1 to 1,000,000 nodes, at most 4,000,000 arcs, and all ends are nodes
pub record IsGraph (graph : RawGraph) : Type 0 where
  pub some : 1 ≤ graph.nodes
  pub few_nodes : graph.nodes ≤ NODE_LIMIT
  pub few_arcs : length graph.arcs ≤ ARC_LIMIT
  pub tails : All (λ arc. IsNodeNumber graph.nodes arc.tail) graph.arcs
  pub heads : All (λ arc. IsNodeNumber graph.nodes arc.head) graph.arcs

-- neither blank nor a comment
abbrev pub is_content : LineKind → Bool
is_content Skipped = false
is_content _ = true

-- a problem line, and then a line for each arc
abbrev pub graph_lines : RawGraph → List LineKind
graph_lines graph =
    ProblemLine (Some (record { nodes = graph.nodes; arcs = length graph.arcs }))
    ∷ map (λ arc. ArcLine (Some arc)) graph.arcs

-- without its blank lines and comments, the text of a graph within the limits is its lines; this
-- says which texts are accepted, without faults and their order
pub record IsTextOf (bytes : List ℕ) (graph : RawGraph) : Type 0 where
  pub lines : filter is_content (text_kinds bytes) ≡ graph_lines graph
  pub limits : IsGraph graph
