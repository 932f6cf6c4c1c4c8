use Rattle.std.proofs.Common.{◌≡◌, Ok, ap, sym, ◌∙◌, arith}
use Rattle.std.proofs.lemmas.Result.{err_from_is_err_and}
use Rattle.std.proofs.lemmas.List.Sorted.{All-permutation}
use Rattle.sota_histcsv.specs.Words.{is_shortage}
use Rattle.sota_histcsv.specs.Records.{without_mark}
use Rattle.sota_histcsv.specs.Histograms.{timed}
use Rattle.sota_histcsv.specs.Kept.{HasNoZero, contents_in}
use Rattle.sota_histcsv.proofs.Keeping.{unless_more}
use Rattle.sota_histcsv.proofs.Moved.{timed_moved}
use Rattle.sota_histcsv.proofs.Whole.{IsRead, AreArcs, is_read, are_arcs, net_refused, net_read}
use Rattle.sota_histcsv.proofs.histograms.read_histograms.Goals.{In_ok-table, After-as_slice-2, In_ok-arcs}
use Rattle.sota_histcsv.proofs.histograms.read_histograms.Goals as goal

-- the text is the bytes after a mark
text : (c : In_ok-table) → c.without_mark-text.result.now ≡ without_mark c.args.bytes.items
text c = c.without_mark-text.ensures ∙ ap without_mark c.deref.ensures.value

-- the table that was read
read : (c : In_ok-table) → IsRead c.args.bytes.items c.args.graph c.in_ok-table.table
read c =
    is_read c.args.bytes.items c.without_mark-text.result.now c.as_slice.result.now c.args.graph c.in_ok-table.table
    (text c) c.as_slice.ensures c.in_ok-table.ensures.holds

-- the arcs that are timed by its moved entries are those of the text
same : (c : After-as_slice-2) → (is : IsRead c.args.bytes.items c.args.graph c.in_ok-table.table)
    → timed is.known c.args.graph.arcs ≡ timed (contents_in c.in_ok-table.table) c.as_slice-2.result.now
same c is =
    sym (timed_moved c.order_of_pairs.ensures.valid c.order_of_pairs.ensures.sums c.order_of_pairs.ensures.known
    c.in_ok-table.table is.known is.holds is.are.kept c.args.graph.arcs)
    ∙ ap (timed (contents_in c.in_ok-table.table)) (sym c.as_slice-2.ensures)

pub timed_arcs-requires-clause-each : goal.timed_arcs-requires-clause-each
timed_arcs-requires-clause-each c =
    let is = read (goal.at.timed_arcs-requires-clause-each c).In_ok-table in
    All-permutation HasNoZero is.known.entries c.in_ok-table.table.entries.items is.holds.moved is.are.kept.each

pub returns-in_err-arcs : goal.returns-in_err-arcs
returns-in_err-arcs c =
    let is = read (goal.at.returns-in_err-arcs c).In_ok-table in
    let p = err_from_is_err_and c.from_residual-in_err-arcs.result c.from_residual-in_err-arcs.ensures.1 in
    rw (p.1, p.2)
    (unless_more (is_shortage c.in_err-arcs.field-0.0)
    (λ e. net_refused c.args.bytes.items c.without_mark-text.result.now c.args.graph is.known c.in_err-arcs.field-0.0
    (text (goal.at.returns-in_err-arcs c).In_ok-table) (sym c.is_marked.ensures ∙ c.if-is_marked.false) is.is
    (same (goal.at.returns-in_err-arcs c).After-as_slice-2 is ∙ e))
    c.in_err-arcs.ensures)

-- the arcs make a network
made : (c : In_ok-arcs) → (is : IsRead c.args.bytes.items c.args.graph c.in_ok-table.table)
    → timed is.known c.args.graph.arcs ≡ timed (contents_in c.in_ok-table.table) c.as_slice-2.result.now
    → AreArcs c.args.graph is.known c.in_ok-arcs.arcs.items
made c is moved =
    are_arcs c.order_of_pairs.ensures.valid c.order_of_pairs.ensures.sums c.args.graph is.known
    c.in_ok-arcs.arcs.items c.requires.graph is.are (moved ∙ c.in_ok-arcs.ensures)

pub build-requires-clause-arcs : goal.build-requires-clause-arcs
build-requires-clause-arcs c =
    let is = read (goal.at.build-requires-clause-arcs c).In_ok-table in
    let are = made (goal.at.build-requires-clause-arcs c).In_ok-arcs is (same (goal.at.build-requires-clause-arcs c).After-as_slice-2 is) in
    omega (arith, are.few, c.requires.graph.few_arcs)

pub build-requires-clause-valid : goal.build-requires-clause-valid
build-requires-clause-valid c =
    let is = read (goal.at.build-requires-clause-valid c).In_ok-table in
    rw is.holds.scale (made (goal.at.build-requires-clause-valid c).In_ok-arcs is (same (goal.at.build-requires-clause-valid c).After-as_slice-2 is)).valid

pub returns : goal.returns
returns c =
    let is = read (goal.at.returns c).In_ok-table in
    net_read c.args.bytes.items c.without_mark-text.result.now c.args.graph is.known c.in_ok-arcs.arcs.items
    (text (goal.at.returns c).In_ok-table) (sym c.is_marked.ensures ∙ c.if-is_marked.false) is.is
    (same (goal.at.returns c).After-as_slice-2 is ∙ c.in_ok-arcs.ensures)
    ∙ (rw (← is.holds.scale) (ap (λ net. Ok net) (sym c.in_ok-build.ensures.value)))
