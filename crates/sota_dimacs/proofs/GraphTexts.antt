-- The accepted texts are those of the graphs within the limits.
use Rattle.std.proofs.Common.{◌≡◌, ℕ, ◌+◌, ◌<◌, ◌≤◌, List, [], ◌∷◌, ◌++◌, Bool, true, false, cond, ◌&&◌, ◌==◌, nat_lt, length, map, filter, All, Option, Some, None, Result, Ok, Err, IfOk, refl, sym, ◌∙◌, ap, subst, arith, append_assoc, append-nil, length-append}
use Rattle.std.specs.List.{enumerate_from}
use Rattle.std.proofs.lemmas.List.Elements.{All-nil, All-push, All-head, All-tail}
use Rattle.sota_units.specs.Limits.{NODE_LIMIT, ARC_LIMIT}
use Rattle.sota_units.specs.Ids.{is_node_number}
use Rattle.sota_dimacs.specs.Graph.{problem_size_fault, arc_range_fault, or_line_fault, graph_with, graph_text, text_kinds, IsNodeNumber, IsGraph, is_content, graph_lines, IsTextOf}
use Rattle.sota_dimacs.specs.declared.graph.RawArc.{RawArc}
use Rattle.sota_dimacs.specs.declared.graph.RawGraph.{RawGraph}
use Rattle.sota_dimacs.specs.declared.fault.GraphFault.{GraphFault}
use Rattle.sota_dimacs.specs.declared.fault.GraphFault.TheVariants.{BadLine, NodeRange, TooManyArcs, TooManyNodes, ArcLimit, TooFewArcs}
use Rattle.sota_dimacs.specs.declared.line.Problem.{Problem}
use Rattle.sota_dimacs.specs.declared.line.LineKind.{LineKind}
use Rattle.sota_dimacs.specs.declared.line.LineKind.TheVariants.{Skipped, ProblemLine, ArcLine, Unknown}
use Rattle.sota_dimacs.proofs.Reading.{rest_of, rest_of_all}

abbrev pub arc_line : RawArc → LineKind
arc_line arc = ArcLine (Some arc)

-- ---- what lines without a fault have announced

-- a problem within the limits, and arcs of it, no more than it gives
pub record Counted (problem : Problem) (arcs : List RawArc) : Type 0 where
  pub some : 1 ≤ problem.nodes
  pub few_nodes : problem.nodes ≤ NODE_LIMIT
  pub few_arcs : problem.arcs ≤ ARC_LIMIT
  pub announced : length arcs ≤ problem.arcs
  pub tails : All (λ (arc : RawArc). IsNodeNumber problem.nodes arc.tail) arcs
  pub heads : All (λ (arc : RawArc). IsNodeNumber problem.nodes arc.head) arcs

no_fault : (fault : Option GraphFault) (rest : Result RawGraph GraphFault) (graph : RawGraph) → or_line_fault fault rest ≡ Ok graph → (fault ≡ None) × (rest ≡ Ok graph)
no_fault (Some fault) rest graph e = cc
no_fault None rest graph e = (refl, e)

sizes_counted : (number : ℕ) (problem : Problem) → problem_size_fault number problem ≡ None → Counted problem []
sizes_counted number problem e =
    elim (problem.nodes == 0) as (λ b. problem.nodes == 0 ≡ b → cond b (Some (BadLine number)) (cond (nat_lt NODE_LIMIT problem.nodes) (Some (TooManyNodes problem.nodes)) (cond (nat_lt ARC_LIMIT problem.arcs) (Some (ArcLimit problem.arcs)) None)) ≡ None → Counted problem []) [
      | true ↦ λ zero e. cc
      | false ↦ λ zero e. elim (nat_lt NODE_LIMIT problem.nodes) as (λ b. nat_lt NODE_LIMIT problem.nodes ≡ b → cond b (Some (TooManyNodes problem.nodes)) (cond (nat_lt ARC_LIMIT problem.arcs) (Some (ArcLimit problem.arcs)) None) ≡ None → Counted problem []) [
        | true ↦ λ nodes e. cc
        | false ↦ λ nodes e. elim (nat_lt ARC_LIMIT problem.arcs) as (λ b. nat_lt ARC_LIMIT problem.arcs ≡ b → cond b (Some (ArcLimit problem.arcs)) None ≡ None → Counted problem []) [
          | true ↦ λ arcs e. cc
          | false ↦ λ arcs e. record { some = grind arith; few_nodes = grind arith; few_arcs = grind arith; announced = omega arith; tails = All-nil _; heads = All-nil _ }
        ] refl e
      ] refl e
    ] refl e

pub record ArcFits (problem : Problem) (found : ℕ) (arc : RawArc) : Type 0 where
  pub room : found < problem.arcs
  pub tail : IsNodeNumber problem.nodes arc.tail
  pub head : IsNodeNumber problem.nodes arc.head

node_is : (nodes node : ℕ) → is_node_number nodes node ≡ true → IsNodeNumber nodes node
node_is nodes node e = grind arith

is_node_of : (nodes node : ℕ) → IsNodeNumber nodes node → is_node_number nodes node ≡ true
is_node_of nodes node e = grind arith

and_true : (a b : Bool) → (a && b) ≡ true → (a ≡ true) × (b ≡ true)
and_true true true e = (refl, refl)
and_true true false e = cc
and_true false b e = cc

arc_fits : (problem : Problem) (found number : ℕ) (arc : RawArc) → arc_range_fault problem found number arc ≡ None → ArcFits problem found arc
arc_fits problem found number arc e =
    elim (is_node_number problem.nodes arc.tail && is_node_number problem.nodes arc.head) as (λ b. (is_node_number problem.nodes arc.tail && is_node_number problem.nodes arc.head) ≡ b
    → cond b (cond (nat_lt found problem.arcs) None (Some (TooManyArcs number))) (Some (NodeRange number)) ≡ None → ArcFits problem found arc) [
      | false ↦ λ ends e. cc
      | true ↦ λ ends e. elim (nat_lt found problem.arcs) as (λ b. nat_lt found problem.arcs ≡ b → cond b None (Some (TooManyArcs number)) ≡ None → ArcFits problem found arc) [
        | false ↦ λ room e. cc
        | true ↦ λ room e.
            let both = and_true (is_node_number problem.nodes arc.tail) (is_node_number problem.nodes arc.head) ends in
            record { room = grind arith; tail = node_is problem.nodes arc.tail both.0; head = node_is problem.nodes arc.head both.1 }
      ] refl e
    ] refl e

one_more : (problem : Problem) (arcs : List RawArc) (arc : RawArc) → Counted problem arcs → ArcFits problem (length arcs) arc → Counted problem (arcs ++ arc ∷ [])
one_more problem arcs arc seen fits = record {
  some = seen.some;
  few_nodes = seen.few_nodes;
  few_arcs = seen.few_arcs;
  announced = omega (arith, length-append arcs (arc ∷ []), fits.room);
  tails = All-push (λ (arc : RawArc). IsNodeNumber problem.nodes arc.tail) arcs arc seen.tails fits.tail;
  heads = All-push (λ (arc : RawArc). IsNodeNumber problem.nodes arc.head) arcs arc seen.heads fits.head;
}

-- ---- an accepted text is that of its graph

-- after a problem line, the lines that are left are those of more arcs
pub record Gives (problem : Problem) (arcs : List RawArc) (lines : List LineKind) (graph : RawGraph) (more : List RawArc) : Type 0 where
  pub content : filter is_content lines ≡ map arc_line more
  pub is : graph ≡ record { nodes = problem.nodes; arcs = arcs ++ more }
  pub counted : Counted problem (arcs ++ more)
  pub all : problem.arcs ≤ length (arcs ++ more)

last_gives : (problem : Problem) (arcs : List RawArc) (graph : RawGraph) → Counted problem arcs → graph_with (Some problem) arcs ≡ Ok graph → Gives problem arcs [] graph []
last_gives problem arcs graph seen e =
    elim (nat_lt (length arcs) problem.arcs) as (λ b. nat_lt (length arcs) problem.arcs ≡ b → cond b (Err (TooFewArcs (length arcs))) (Ok (record { nodes = problem.nodes; arcs = arcs })) ≡ Ok graph → Gives problem arcs [] graph []) [
      | true ↦ λ few e. cc
      | false ↦ λ few e.
          let enough : problem.arcs ≤ length arcs = grind arith in
          let same : graph ≡ record { nodes = problem.nodes; arcs = arcs } = cc in
          let whole : arcs ++ [] ≡ arcs = append-nil arcs in
          record { content = refl; is = rw whole same; counted = rw whole seen; all = rw whole enough }
    ] refl e

abbrev pub SomeGives : Problem → List RawArc → List LineKind → RawGraph → Type 0
SomeGives problem arcs lines graph = (more : List RawArc) × Gives problem arcs lines graph more

-- a line that is skipped gives nothing more
skip_gives : (problem : Problem) (arcs : List RawArc) (lines : List LineKind) (graph : RawGraph) → SomeGives problem (arcs ++ []) lines graph → SomeGives problem arcs (Skipped ∷ lines) graph
skip_gives problem arcs lines graph h =
    let rest : SomeGives problem arcs lines graph = rw append-nil at h in
    (rest.0, record { content = rest.1.content; is = rest.1.is; counted = rest.1.counted; all = rest.1.all })

-- an arc line gives one arc more
arc_gives : (problem : Problem) (arcs : List RawArc) (lines : List LineKind) (graph : RawGraph) (arc : RawArc) → SomeGives problem (arcs ++ arc ∷ []) lines graph
    → SomeGives problem arcs (arc_line arc ∷ lines) graph
arc_gives problem arcs lines graph arc h =
    let gives = h.1 in
    let assoc : (arcs ++ arc ∷ []) ++ h.0 ≡ arcs ++ arc ∷ h.0 = append_assoc arcs (arc ∷ []) h.0 in
    (arc ∷ h.0, record { content = ap (λ rest. arc_line arc ∷ rest) gives.content; is = rw assoc at gives.is; counted = rw assoc at gives.counted; all = rw assoc at gives.all })

arcs_give : (problem : Problem) (arcs : List RawArc) (number : ℕ) (lines : List LineKind) (graph : RawGraph) → Counted problem arcs
    → rest_of (Some problem) arcs (enumerate_from number lines) ≡ Ok graph → SomeGives problem arcs lines graph
arcs_give problem arcs number [] graph seen e = ([], last_gives problem arcs graph seen e)
arcs_give problem arcs number (Skipped ∷ lines) graph seen e =
    skip_gives problem arcs lines graph (arcs_give problem (arcs ++ []) (number + 1) lines graph (rw append-nil seen) e)
arcs_give problem arcs number (ProblemLine other ∷ lines) graph seen e = cc
arcs_give problem arcs number (ArcLine None ∷ lines) graph seen e = cc
arcs_give problem arcs number (ArcLine (Some arc) ∷ lines) graph seen e =
    let on = no_fault (arc_range_fault problem (length arcs) number arc) (rest_of (Some problem) (arcs ++ arc ∷ []) (enumerate_from (number + 1) lines)) graph e in
    arc_gives problem arcs lines graph arc
    (arcs_give problem (arcs ++ arc ∷ []) (number + 1) lines graph (one_more problem arcs arc seen (arc_fits problem (length arcs) number arc on.0)) on.1)
arcs_give problem arcs number (Unknown ∷ lines) graph seen e = cc

-- what IsTextOf says, of lines
pub record AreLinesOf (lines : List LineKind) (graph : RawGraph) : Type 0 where
  pub content : filter is_content lines ≡ graph_lines graph
  pub limits : IsGraph graph

problem_gives : (problem : Problem) (lines : List LineKind) (graph : RawGraph) → SomeGives problem [] lines graph → AreLinesOf (ProblemLine (Some problem) ∷ lines) graph
problem_gives problem lines graph h =
    let gives = h.1 in
    let many : problem.arcs ≡ length h.0 = omega (arith, gives.all, gives.counted.announced) in
    let announced : problem ≡ record { nodes = problem.nodes; arcs = length h.0 } = ap (λ (n : ℕ). record { nodes = problem.nodes; arcs = n }) many in
    let content : filter is_content (ProblemLine (Some problem) ∷ lines) ≡ graph_lines (record { nodes = problem.nodes; arcs = h.0 }) =
    ap (λ rest. ProblemLine (Some problem) ∷ rest) gives.content ∙ ap (λ (problem : Problem). ProblemLine (Some problem) ∷ map arc_line h.0) announced in
    let limits : IsGraph (record { nodes = problem.nodes; arcs = h.0 }) =
    record { some = gives.counted.some; few_nodes = gives.counted.few_nodes; few_arcs = omega (arith, gives.counted.few_arcs, gives.counted.announced); tails = gives.counted.tails; heads = gives.counted.heads } in
    subst (λ graph. AreLinesOf (ProblemLine (Some problem) ∷ lines) graph) (sym gives.is) (record { content = content; limits = limits })

lines_give : (number : ℕ) (lines : List LineKind) (graph : RawGraph) → rest_of None [] (enumerate_from number lines) ≡ Ok graph → AreLinesOf lines graph
lines_give number [] graph e = cc
lines_give number (Skipped ∷ lines) graph e = let rest = lines_give (number + 1) lines graph e in record { content = rest.content; limits = rest.limits }
lines_give number (ProblemLine None ∷ lines) graph e = cc
lines_give number (ProblemLine (Some problem) ∷ lines) graph e =
    let on = no_fault (problem_size_fault number problem) (rest_of (Some problem) [] (enumerate_from (number + 1) lines)) graph e in
    problem_gives problem lines graph (arcs_give problem [] (number + 1) lines graph (sizes_counted number problem on.0) on.1)
lines_give number (ArcLine arc ∷ lines) graph e = cc
lines_give number (Unknown ∷ lines) graph e = cc

pub accepted_text : (bytes : List ℕ) (graph : RawGraph) → graph_text bytes ≡ Ok graph → IsTextOf bytes graph
accepted_text bytes graph e =
    let lines = lines_give 1 (text_kinds bytes) graph (rest_of_all (text_kinds bytes) ∙ e) in
    record { lines = lines.content; limits = lines.limits }

-- an answer that is the text's
pub answer_accepted : (bytes : List ℕ) (answer : Result RawGraph GraphFault) → answer ≡ graph_text bytes → IfOk answer (λ graph. IsTextOf bytes graph)
answer_accepted bytes (Ok graph) e = accepted_text bytes graph (sym e)
answer_accepted bytes (Err fault) e = tt

pub answer_valid : (bytes : List ℕ) (answer : Result RawGraph GraphFault) → answer ≡ graph_text bytes → IfOk answer (λ graph. IsGraph graph)
answer_valid bytes (Ok graph) e = (accepted_text bytes graph (sym e)).limits
answer_valid bytes (Err fault) e = tt

-- ---- the text of a graph is accepted

-- arcs after others, as many as the problem gives
pub record Expected (problem : Problem) (arcs more : List RawArc) : Type 0 where
  pub all : problem.arcs ≡ length (arcs ++ more)
  pub tails : All (λ (arc : RawArc). IsNodeNumber problem.nodes arc.tail) more
  pub heads : All (λ (arc : RawArc). IsNodeNumber problem.nodes arc.head) more

fits_no_fault : (problem : Problem) (found number : ℕ) (arc : RawArc) → ArcFits problem found arc → arc_range_fault problem found number arc ≡ None
fits_no_fault problem found number arc fits =
    let tail = is_node_of problem.nodes arc.tail fits.tail in
    let head = is_node_of problem.nodes arc.head fits.head in
    let room : nat_lt found problem.arcs ≡ true = let h : found < problem.arcs = fits.room in grind arith in
    rw (tail, head, room) refl

next_expected : (problem : Problem) (arcs more : List RawArc) (arc : RawArc) → Expected problem arcs (arc ∷ more)
    → Expected problem (arcs ++ arc ∷ []) more × ArcFits problem (length arcs) arc
next_expected problem arcs more arc h =
    let assoc : (arcs ++ arc ∷ []) ++ more ≡ arcs ++ arc ∷ more = append_assoc arcs (arc ∷ []) more in (
      record { all = rw assoc h.all; tails = All-tail (λ (arc : RawArc). IsNodeNumber problem.nodes arc.tail) arc more h.tails; heads = All-tail (λ (arc : RawArc). IsNodeNumber problem.nodes arc.head) arc more h.heads },
      record { room = omega (arith, h.all, length-append arcs (arc ∷ more)); tail = All-head (λ (arc : RawArc). IsNodeNumber problem.nodes arc.tail) arc more h.tails; head = All-head (λ (arc : RawArc). IsNodeNumber problem.nodes arc.head) arc more h.heads },
    )

arcs_accepted : (problem : Problem) (arcs more : List RawArc) (number : ℕ) (lines : List LineKind) → Expected problem arcs more → filter is_content lines ≡ map arc_line more
    → rest_of (Some problem) arcs (enumerate_from number lines) ≡ Ok (record { nodes = problem.nodes; arcs = arcs ++ more })
arcs_accepted problem arcs [] number [] h e =
    let enough : nat_lt (length arcs) problem.arcs ≡ false = let all : problem.arcs ≡ length arcs = h.all ∙ ap length (append-nil arcs) in grind arith in
    rw (enough, append-nil) refl
arcs_accepted problem arcs (arc ∷ more) number [] h e = cc
arcs_accepted problem arcs more number (Skipped ∷ lines) h e =
    rw append-nil (arcs_accepted problem arcs more (number + 1) lines h e)
arcs_accepted problem arcs [] number (ProblemLine other ∷ lines) h e = cc
arcs_accepted problem arcs (arc ∷ more) number (ProblemLine other ∷ lines) h e = cc
arcs_accepted problem arcs [] number (Unknown ∷ lines) h e = cc
arcs_accepted problem arcs (arc ∷ more) number (Unknown ∷ lines) h e = cc
arcs_accepted problem arcs [] number (ArcLine other ∷ lines) h e = cc
arcs_accepted problem arcs (arc ∷ more) number (ArcLine None ∷ lines) h e = cc
arcs_accepted problem arcs (arc ∷ more) number (ArcLine (Some other) ∷ lines) h e =
    let same : other ≡ arc = cc in
    let rest : filter is_content lines ≡ map arc_line more = cc in
    let next = next_expected problem arcs more arc h in
    let goal : rest_of (Some problem) arcs (enumerate_from number (ArcLine (Some arc) ∷ lines)) ≡ Ok (record { nodes = problem.nodes; arcs = arcs ++ arc ∷ more }) =
    ap (λ fault. or_line_fault fault (rest_of (Some problem) (arcs ++ arc ∷ []) (enumerate_from (number + 1) lines))) (fits_no_fault problem (length arcs) number arc next.1)
    ∙ arcs_accepted problem (arcs ++ arc ∷ []) more (number + 1) lines next.0 rest
    ∙ ap (λ (all : List RawArc). Ok (record { nodes = problem.nodes; arcs = all })) (append_assoc arcs (arc ∷ []) more) in
    subst (λ arc'. rest_of (Some problem) arcs (enumerate_from number (ArcLine (Some arc') ∷ lines)) ≡ Ok (record { nodes = problem.nodes; arcs = arcs ++ arc ∷ more })) (sym same) goal

sizes_no_fault : (number : ℕ) (problem : Problem) → 1 ≤ problem.nodes → problem.nodes ≤ NODE_LIMIT → problem.arcs ≤ ARC_LIMIT → problem_size_fault number problem ≡ None
sizes_no_fault number problem some nodes arcs =
    let a : (problem.nodes == 0) ≡ false = grind arith in
    let b : nat_lt NODE_LIMIT problem.nodes ≡ false = grind arith in
    let c : nat_lt ARC_LIMIT problem.arcs ≡ false = grind arith in
    rw (a, b, c) refl

lines_accepted : (number : ℕ) (lines : List LineKind) (graph : RawGraph) → filter is_content lines ≡ graph_lines graph → IsGraph graph → rest_of None [] (enumerate_from number lines) ≡ Ok graph
lines_accepted number [] graph e limits = cc
lines_accepted number (Skipped ∷ lines) graph e limits = lines_accepted (number + 1) lines graph e limits
lines_accepted number (Unknown ∷ lines) graph e limits = cc
lines_accepted number (ArcLine arc ∷ lines) graph e limits = cc
lines_accepted number (ProblemLine None ∷ lines) graph e limits = cc
lines_accepted number (ProblemLine (Some other) ∷ lines) graph e limits =
    let problem : Problem = record { nodes = graph.nodes; arcs = length graph.arcs } in
    let same : other ≡ record { nodes = graph.nodes; arcs = length graph.arcs } = cc in
    let rest : filter is_content lines ≡ map arc_line graph.arcs = cc in
    let expected : Expected problem [] graph.arcs = record { all = refl; tails = limits.tails; heads = limits.heads } in
    let goal : rest_of None [] (enumerate_from number (ProblemLine (Some problem) ∷ lines)) ≡ Ok graph =
    ap (λ fault. or_line_fault fault (rest_of (Some problem) [] (enumerate_from (number + 1) lines))) (sizes_no_fault number problem limits.some limits.few_nodes limits.few_arcs)
    ∙ arcs_accepted problem [] graph.arcs (number + 1) lines expected rest in
    subst (λ problem. rest_of None [] (enumerate_from number (ProblemLine (Some problem) ∷ lines)) ≡ Ok graph) (sym same) goal

pub text_accepted : (bytes : List ℕ) (graph : RawGraph) → IsTextOf bytes graph → graph_text bytes ≡ Ok graph
text_accepted bytes graph text = sym (rest_of_all (text_kinds bytes)) ∙ lines_accepted 1 (text_kinds bytes) graph text.lines text.limits
