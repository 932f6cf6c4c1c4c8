use Rattle.sota_hist.proofs.Parting.{is_difference}
use Rattle.sota_hist.proofs.histogram.Histogram.first_difference.Goals as goal

pub returns-clause-same : goal.returns-clause-same
returns-clause-same c =
    (is_difference c.pairs.result.now c.pairs-2.result.now c.args.self.now c.args.other.now c.first_difference_of.result c.pairs.ensures.valid c.pairs-2.ensures.valid c.pairs.ensures.value c.pairs-2.ensures.value c.first_difference_of.ensures).0

pub returns-clause-before : goal.returns-clause-before
returns-clause-before c =
    (is_difference c.pairs.result.now c.pairs-2.result.now c.args.self.now c.args.other.now c.first_difference_of.result c.pairs.ensures.valid c.pairs-2.ensures.valid c.pairs.ensures.value c.pairs-2.ensures.value c.first_difference_of.ensures).1
