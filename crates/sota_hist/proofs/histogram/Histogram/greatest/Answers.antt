use Rattle.std.proofs.Common.{◌∙◌, ap}
use Rattle.sota_hist.specs.Time.{is_closed, greatest_tick}
use Rattle.sota_hist.proofs.Ticks.{last_tick, some_from_open}
use Rattle.sota_hist.proofs.histogram.Histogram.greatest.Goals as goal

pub returns-clause-value : goal.returns-clause-value
returns-clause-value c =
    (last_tick c.pairs-pairs.result.now c.index-pairs-pairs.result c.pairs-pairs.ensures.valid
    (some_from_open c.pairs-pairs.result.now
    (ap is_closed c.pairs-pairs.ensures.value ∙ c.requires))).0
    ∙ ap greatest_tick c.pairs-pairs.ensures.value

pub returns-clause-positive : goal.returns-clause-positive
returns-clause-positive c =
    (last_tick c.pairs-pairs.result.now c.index-pairs-pairs.result c.pairs-pairs.ensures.valid
    (some_from_open c.pairs-pairs.result.now
    (ap is_closed c.pairs-pairs.ensures.value ∙ c.requires))).1
