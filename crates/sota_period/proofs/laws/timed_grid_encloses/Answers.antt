use Rattle.sota_period.specs.Periods.{first_net, timed_net}
use Rattle.sota_period.proofs.Periods.{is-timed}
use Rattle.sota_period.proofs.Upper.{upper}
use Rattle.sota_period.proofs.Lower.{lower}
use Rattle.sota_period.proofs.Gap.{near}
use Rattle.sota_period.proofs.laws.timed_grid_encloses.Goals as goal

pub returns : goal.returns
returns c = record {
  encloses = λ periods deadline dest i t are. (
    λ tree fits. upper c.network_laws.ensures (timed_net periods deadline) (first_net periods).nodes (is-timed periods deadline are) dest tree i t fits,
    lower c.network_laws.ensures (timed_net periods deadline) (first_net periods).nodes (is-timed periods deadline are) dest i t,
  );
  order = λ periods deadline dest i t are. (near c.network_laws.ensures (timed_net periods deadline) (first_net periods).nodes (is-timed periods deadline are) dest i t).0;
  gap = λ periods deadline dest i t are. (near c.network_laws.ensures (timed_net periods deadline) (first_net periods).nodes (is-timed periods deadline are) dest i t).1;
  whole = λ periods deadline dest i t are. (near c.network_laws.ensures (timed_net periods deadline) (first_net periods).nodes (is-timed periods deadline are) dest i t).2;
}
