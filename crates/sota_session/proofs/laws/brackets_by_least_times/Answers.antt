use Rattle.std.proofs.Common.{Some}
use Rattle.sota_kept.specs.Ticks.{END_LIMIT}
use Rattle.sota_session.proofs.BracketPlanned.{bracket-is-planned}
use Rattle.sota_session.proofs.laws.brackets_by_least_times.Goals as goal

pub returns : goal.returns
returns c = λ net ask valid short found. bracket-is-planned net ask (record {
  short = short;
  times = λ i time least. c.least_ticks.ensures.time net ask.dest END_LIMIT ask.dest i time valid least;
  most = λ i. c.least_ticks.ensures.most net ask.dest END_LIMIT ask.dest i valid;
  counted = λ i many. c.regions_have_least_times.ensures.counted net ask.origin ask.dest ask.budget i valid many;
  pairs = λ i to from off onward came. c.region_by_least_times.ensures.pairs net ask.origin ask.dest ask.budget i to from valid off onward came;
  dest_pairs = c.region_by_least_times.ensures.dest_pairs net ask.origin ask.dest ask.budget;
})
    (λ i t is. c.regions_have_least_times.ensures.inside net ask.origin ask.dest ask.budget i t valid is)
    (λ i t to from off onward came. c.region_by_least_times.ensures.inside net ask.origin ask.dest ask.budget i t (Some to) (Some from) valid off onward came)
    found
