use Rattle.sota_period.proofs.laws.network_laws.Goals as goal

pub returns : goal.returns
returns c = record {
  sums = c.sums_and_scores.ensures.sums;
  ticks = c.sums_and_scores.ensures.ticks;
  rounding = c.sums_and_scores.ensures.rounding;
  pairs = c.scores_by_pairs.ensures;
  settles = λ x step causal i t. c.steps_settle.ensures x step causal i t;
  arc = λ net e arc valid is. c.arcs_by_number.ensures net e arc valid is;
  greatest = λ net worth e arc is. c.choices_by_worth.ensures.greatest net worth e arc is;
  none = λ net worth i. c.choices_by_worth.ensures.none net worth i;
  found = λ net worth i e is. c.choices_by_worth.ensures.found net worth i e is;
}
