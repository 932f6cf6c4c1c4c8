use Rattle.sota_session.proofs.Filed.{plan-filed}
use Rattle.sota_session.proofs.laws.plans_by_least_times.Goals as goal

pub returns : goal.returns
returns c = λ net ask valid. plan-filed net ask (record {
  counted = λ i many. c.regions_have_least_times.ensures.counted net ask.origin ask.dest ask.budget i valid many;
  inside = λ i t is. c.regions_have_least_times.ensures.inside net ask.origin ask.dest ask.budget i t valid is;
  pairs = λ i to from off onward came. c.region_by_least_times.ensures.pairs net ask.origin ask.dest ask.budget i to from valid off onward came;
  needs = λ i to from off onward came. c.region_by_least_times.ensures.needs net ask.origin ask.dest ask.budget i to from valid off onward came;
})
