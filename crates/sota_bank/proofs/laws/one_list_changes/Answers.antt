use Rattle.std.proofs.Common.{ap, [], length-set, get_or-set_same, get_or-set_other}
use Rattle.sota_bank.specs.Rows.{row_of, cap_at}
use Rattle.sota_bank.proofs.ByRow.{cap-kept}
use Rattle.sota_bank.proofs.laws.one_list_changes.Goals as goal

pub returns : goal.returns
returns g c = record {
  own = λ rows row list within. ap (λ r. r.items) (get_or-set_same rows row (row_of list (cap_at rows row)) (row_of [] 0) within);
  others = λ rows row other list off. ap (λ r. r.items) (get_or-set_other rows row other (row_of list (cap_at rows row)) (row_of [] 0) off);
  capacities = λ rows row other list. cap-kept rows row other list;
  count = λ rows row list. length-set rows row (row_of list (cap_at rows row));
}
