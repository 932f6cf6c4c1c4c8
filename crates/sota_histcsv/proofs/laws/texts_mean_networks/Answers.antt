use Rattle.sota_histcsv.proofs.Weights.{net_is}
use Rattle.sota_histcsv.proofs.Whole.{text_is}
use Rattle.sota_histcsv.proofs.laws.texts_mean_networks.Goals as goal

pub returns-clause-text : goal.returns-clause-text
returns-clause-text c = text_is c.order_of_pairs.ensures.valid c.order_of_pairs.ensures.sums

pub returns-clause-weights : goal.returns-clause-weights
returns-clause-weights c = net_is
