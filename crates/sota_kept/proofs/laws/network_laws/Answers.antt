use Rattle.sota_kept.proofs.laws.network_laws.Goals as goal

pub returns : goal.returns
returns c = λ net valid. record {
  valid = valid;
  arc = λ e arc at. c.arcs_by_number.ensures net e arc valid at;
  edited = λ e time rises sums. c.edits_keep_networks.ensures net e time valid rises sums;
  lower = λ dest i t. c.grid_recurs.ensures.lower net dest i t valid;
  upper = λ dest i t. c.grid_recurs.ensures.upper net dest i t valid;
  order = λ dest i t. c.grid_encloses.ensures.order net dest i t valid;
  walk = λ dest i j t sure. c.reaches_by_walks.ensures.walk net dest i j t valid sure;
  reach = λ dest i j t n walk le. c.reaches_by_walks.ensures.reach net dest i j t n valid walk le;
  below = λ dest i t never. c.reaches_by_walks.ensures.below net dest i t valid never;
  lower_reads = λ dest i t table off known. c.entries_of_reads.ensures.lower net dest i t table valid off known;
  upper_reads = λ dest i t table off known. c.entries_of_reads.ensures.upper net dest i t table valid off known;
  choice_reads = λ dest i t table off known. c.entries_of_reads.ensures.choice net dest i t table valid off known;
  left = λ i t j u reads. c.entries_of_reads.ensures.left net i t j u reads valid;
  joined = λ dest i j k n m one other. c.reaches_by_walks.ensures.joined net dest i j k n m one other;
  unchosen = λ worth i. c.choices_by_worth.ensures.none net worth i;
  chosen = λ worth i e is. c.choices_by_worth.ensures.found net worth i e is;
  first = λ worth i e is. c.choices_by_worth.ensures.first net worth i e is;
  near = λ other worth worth_there g i near. c.choices_by_worth.ensures.near net other worth worth_there g i near;
  sums = c.sums_and_scores.ensures.sums;
  ticks = c.sums_and_scores.ensures.ticks;
  rounding = c.sums_and_scores.ensures.rounding;
  region = λ origin dest last i t j u inside reads. c.region_closes.ensures net origin dest last i t j u valid inside reads;
  dest_need = λ origin dest last. c.region_by_least_times.ensures.dest_need net origin dest last;
}
