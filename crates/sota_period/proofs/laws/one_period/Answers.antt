use Rattle.sota_period.proofs.Single.{lower-single, upper-single, choice-single}
use Rattle.sota_period.proofs.laws.one_period.Goals as goal

pub returns : goal.returns
returns c = record {
  lower = λ net deadline dest i t valid. lower-single c.network_laws.ensures net valid deadline dest (λ j u. c.grid_recurs.ensures.lower net dest j u valid) i t;
  upper = λ net deadline dest i t valid. upper-single c.network_laws.ensures net valid deadline dest (λ j u. c.grid_recurs.ensures.upper net dest j u valid) i t;
  choice = λ net deadline dest i t valid. choice-single c.network_laws.ensures net valid deadline dest (λ j u. c.grid_recurs.ensures.lower net dest j u valid) i t;
}
