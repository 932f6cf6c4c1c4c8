use Rattle.sota_histcsv.proofs.Accepted.{text_of, text_accepted}
use Rattle.sota_histcsv.proofs.laws.accepted_texts.Goals as goal

pub returns-clause-accepted : goal.returns-clause-accepted
returns-clause-accepted c = text_of c.order_of_pairs.ensures.valid c.order_of_pairs.ensures.sums

pub returns-clause-accepts : goal.returns-clause-accepts
returns-clause-accepts c = text_accepted c.order_of_pairs.ensures.sums
