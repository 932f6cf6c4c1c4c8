use Rattle.sota_check.proofs.laws.grid_laws.Goals as goal

pub returns : goal.returns
returns c = λ net origin dest last valid. record {
  lower = λ i t. c.grid_recurs.ensures.lower net dest i t valid;
  order = λ i t. c.grid_encloses.ensures.order net dest i t valid;
  below = λ i t late. c.reaches_by_walks.ensures.below net dest i t valid late;
  reach = λ i j t n walk fits. c.reaches_by_walks.ensures.reach net dest i j t n valid walk fits;
  made = λ i t table off known. c.entries_of_reads.ensures.lower net dest i t table valid off known;
  chosen = λ i t table off known. c.entries_of_reads.ensures.choice net dest i t table valid off known;
  none = λ worth i is. (c.choices_by_worth.ensures.none net worth i).0 is;
  first = λ worth i e is. c.choices_by_worth.ensures.found net worth i e is;
  closed = λ i t j u inside reads. c.region_closes.ensures net origin dest last i t j u valid inside reads;
}
