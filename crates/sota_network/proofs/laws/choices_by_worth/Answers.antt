use Rattle.sota_network.proofs.Best.{best-has_number}
use Rattle.sota_network.proofs.Chosen.{chosen-none, none-chosen, chosen-first, first-chosen, best-near}
use Rattle.std.proofs.Common.{refl}
use Rattle.sota_network.proofs.laws.choices_by_worth.Goals as goal

pub returns : goal.returns
returns c = record {
  greatest = λ net worth e arc is. best-has_number net worth arc.tail e arc is refl;
  none = λ net worth i. (none-chosen net worth i, chosen-none net worth i);
  found = λ net worth i e is. chosen-first net worth i e is;
  first = λ net worth i e is. first-chosen net worth i e is;
  near = λ net other worth worth_there g i near. best-near net other worth worth_there g i near;
}
