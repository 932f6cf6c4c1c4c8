use Rattle.sota_words.specs.Drawn.{words_of}
use Rattle.sota_make.proofs.Valid.{made-valid, arcs-count}
use Rattle.sota_make.proofs.laws.made_networks.Goals as goal

pub returns-clause-valid : goal.returns-clause-valid
returns-clause-valid c = made-valid c.draws_are_below.ensures

pub returns-clause-count : goal.returns-clause-count
returns-clause-count c = λ seed nodes arcs span. arcs-count nodes span arcs 1 (words_of seed)
