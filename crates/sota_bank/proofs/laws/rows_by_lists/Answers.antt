use Rattle.std.proofs.Common.{ℕ, List, [], length, get_or, sym, ap, ◌∙◌}
use Rattle.std.proofs.lemmas.List.{length-map}
use Rattle.sota_bank.proofs.ByRow.{list-by-lists, cap-by-capacities}
use Rattle.sota_bank.proofs.laws.rows_by_lists.Goals as goal

pub returns : goal.returns
returns g c = record {
  list = λ old new row same. list-by-lists new row ∙ ap (λ xs. get_or xs row []) same ∙ sym (list-by-lists old row);
  capacity = λ rows caps row same within. cap-by-capacities rows row ∙ ap (λ (xs : List ℕ). get_or xs row 0) same;
  count = λ rows caps same. sym (length-map rows (λ r. r.cap)) ∙ ap (λ (xs : List ℕ). length xs) same;
}
