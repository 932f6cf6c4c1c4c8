use Rattle.std.proofs.Common.{rules, ◌≡◌, [], Err, map, string_bytes, sym}
use Rattle.sota_app.specs.declared.input.NoInput.{NoInput}
use Rattle.sota_app.specs.Later.{later_of}
use Rattle.sota_app.specs.Requests.{TimedRequest}
use Rattle.sota_app.proofs.ReadPeriods.{timed_unread}
use Rattle.sota_app.proofs.periods.load_timed.Goals as goal

pub returns-in_err-periods : goal.returns-in_err-periods
returns-in_err-periods g c =
    let end : NoInput = c.in_err-periods.field-0.0 in
    let is : c.from_residual-in_err-periods.result ≡ Err end = search rules in
    let inside = c.words.inside in
    let words : TimedRequest = record {
      graph = inside.graph.now;
      hists = inside.hists.now;
      asked = inside.asked;
      later = later_of (map (λ word. string_bytes word) inside.later.now);
    } in
    let view : c.args.words.now ≡ words = sym c.words.view_is in
    let read : c.load_periods.result ≡ Err end = search rules in
    let none : c.new-known.result.items ≡ [] = search rules in
    rw view (timed_unread _ _ end c.load_periods.result c.from_residual-in_err-periods.result words
    c.in_ok-graph.graph c.new-known.result.items (g.D.Desk.state c.args.desk.now)
    (g.D.Desk.state c.load_graph.new.desk) (g.D.Desk.state c.load_periods.new.desk) none read is c.in_ok-graph.ensures.read.0
    c.in_ok-graph.ensures.read.1 c.load_periods.ensures.read)
