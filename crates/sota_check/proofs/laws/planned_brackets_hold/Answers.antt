use Rattle.std.proofs.Common.{ℕ}
use Rattle.sota_network.specs.Network.{Net, IsNet}
use Rattle.sota_check.proofs.BracketPlanning.{IsUpperGrid, bracket-holds, lower-bound, upper-bound}
use Rattle.sota_check.proofs.laws.planned_brackets_hold.Goals as goal

pub returns : goal.returns
returns c =
    let above : (net : Net) (dest : ℕ) → IsNet net → IsUpperGrid net dest = λ net dest valid. record {
      upper = λ i t. c.grid_recurs.ensures.upper net dest i t valid;
      whole = λ i t. c.grid_encloses.ensures.whole net dest i t valid;
      made = λ i t table off known. c.entries_of_reads.ensures.upper net dest i t table valid off known;
      outward = λ x. c.sums_and_scores.ensures.rounding.up net.scale x valid.scale;
      greatest = λ worth e arc at. c.choices_by_worth.ensures.greatest net worth e arc at;
    } in
    record {
      bracketed = λ net origin dest last table valid is planned. bracket-holds net origin dest last table valid (λ e arc at. c.arcs_by_number.ensures net e arc valid at) (c.grid_laws.ensures net origin dest last valid) (above net dest valid) is planned;
      lower = λ net origin dest last table valid is planned. lower-bound net origin dest last table valid (λ e arc at. c.arcs_by_number.ensures net e arc valid at) (c.grid_laws.ensures net origin dest last valid) (above net dest valid) is planned;
      upper = λ net origin dest last table valid is planned. upper-bound net origin dest last table valid (λ e arc at. c.arcs_by_number.ensures net e arc valid at) (c.grid_laws.ensures net origin dest last valid) (above net dest valid) is planned;
    }
