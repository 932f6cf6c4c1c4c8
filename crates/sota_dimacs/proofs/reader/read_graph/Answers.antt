use Rattle.std.proofs.Common.{◌≡◌, ◌∙◌, rules}
use Rattle.sota_dimacs.specs.Graph.{graph_text}
use Rattle.sota_dimacs.proofs.Reading.{rest_of_text}
use Rattle.sota_dimacs.proofs.GraphTexts.{answer_accepted, answer_valid, text_accepted}
use Rattle.sota_dimacs.proofs.reader.read_graph.Goals as goal

pub loop-line-init : goal.loop-line-init
loop-line-init c = record {
  text = rw (c.new.ensures.items, c.into_iter-line-iterator.ensures.into_iter_gives) (rest_of_text _ _ c.new-line-items.ensures.texts);
  within = search rules;
}

pub returns-in_err-add-clause-accepts : goal.returns-in_err-add-clause-accepts
returns-in_err-add-clause-accepts c = text_accepted c.args.bytes.now

pub returns-clause-valid : goal.returns-clause-valid
returns-clause-valid c =
    let text : c.finish.result ≡ graph_text c.args.bytes.now = c.finish.ensures ∙ (rw c.in-None.ensures.steps.0 at c.loop-line.invariant.text) in
    answer_valid c.args.bytes.now c.finish.result text

pub returns-clause-accepted : goal.returns-clause-accepted
returns-clause-accepted c =
    let text : c.finish.result ≡ graph_text c.args.bytes.now = c.finish.ensures ∙ (rw c.in-None.ensures.steps.0 at c.loop-line.invariant.text) in
    answer_accepted c.args.bytes.now c.finish.result text

pub returns-clause-accepts : goal.returns-clause-accepts
returns-clause-accepts c = text_accepted c.args.bytes.now
