use Rattle.sota_kept.proofs.Counting.{ticks-time, ticks-reach, ticks-most}
use Rattle.sota_kept.proofs.laws.least_ticks.Goals as goal

pub returns : goal.returns
returns c = record {
  time = λ net dest limit j i time valid least. ticks-time net (c.network_laws.ensures net valid) dest j i limit time least;
  reach = λ net dest limit j i t valid less. ticks-reach net (c.network_laws.ensures net valid) dest j i limit t less;
  most = λ net dest limit j i valid. ticks-most net (c.network_laws.ensures net valid) dest j i limit;
}
