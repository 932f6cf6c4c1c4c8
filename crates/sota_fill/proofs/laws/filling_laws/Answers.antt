use Rattle.std.proofs.Common.{◌∙◌, refl}
use Rattle.std.proofs.lemmas.Bool.{eq-eqb}
use Rattle.sota_network.specs.Grid.{lo}
use Rattle.sota_fill.proofs.laws.filling_laws.Goals as goal

pub returns : goal.returns
returns c = λ net valid. record {
  valid = valid;
  arc = λ e arc is. c.arcs_by_number.ensures net e arc valid is;
  gap = λ dest i t. c.grid_encloses.ensures.gap net dest i t valid;
  order = λ dest i t. c.grid_encloses.ensures.order net dest i t valid;
  whole = λ dest i t. c.grid_encloses.ensures.whole net dest i t valid;
  rise = λ dest i t u later. c.values_rise.ensures.lower net dest i t u valid later;
  rise_upper = λ dest i t u later. c.values_rise.ensures.upper net dest i t u valid later;
  lower = λ dest i t off. c.entries_of_reads.ensures.lower net dest i t (lo net dest) valid off (λ j u reads. refl);
  choice = λ dest i t off. c.entries_of_reads.ensures.choice net dest i t (lo net dest) valid off (λ j u reads. refl);
  unchosen = λ worth i. c.choices_by_worth.ensures.none net worth i;
  near = λ worth other g i most. c.choices_by_worth.ensures.near net net worth other g i (λ e arc at tail. (e, arc, at, tail, most e arc at));
  among = c.arcs_one_by_one.ensures;
  sums = c.sums_and_scores.ensures.sums;
  found = λ worth i e is. c.choices_by_worth.ensures.found net worth i e is;
  at_dest = λ dest t. (
    c.grid_recurs.ensures.lower net dest dest t valid ∙ (rw (eq-eqb dest dest refl) refl),
    c.grid_recurs.ensures.upper net dest dest t valid ∙ (rw (eq-eqb dest dest refl) refl),
  );
  settled = λ dest i t s is less. (c.settled_entries.ensures.lower net dest i t s is less, c.settled_entries.ensures.upper net dest i t s is less);
  known = λ dest i to t j u tables extent less reads. c.extents_fill.ensures.known net dest i to t j u tables valid extent less reads;
  entry = λ dest i t tables off ready known. c.extents_fill.ensures.entry net dest i t tables valid off ready known;
}
