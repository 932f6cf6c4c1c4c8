-- Lists and capacities row by row.
use Rattle.std.proofs.Common.{◌≡◌, ℕ, zero, suc, List, [], ◌∷◌, get_or, refl}
use Rattle.sota_bank.specs.Rows.{Row, list_at, cap_at, with_list, lists, capacities, empty_rows}

module _ {X : Type 0} where
  pub cap-kept : (rows : List (Row X)) (row other : ℕ) (list : List X) → cap_at (with_list rows row list) other ≡ cap_at rows other
  cap-kept [] row other list = refl
  cap-kept (r ∷ rs) zero zero list = refl
  cap-kept (r ∷ rs) zero (suc other) list = refl
  cap-kept (r ∷ rs) (suc row) zero list = refl
  cap-kept (r ∷ rs) (suc row) (suc other) list = cap-kept rs row other list

  pub list-by-lists : (rows : List (Row X)) (row : ℕ) → list_at rows row ≡ get_or (lists rows) row []
  list-by-lists [] row = refl
  list-by-lists (r ∷ rs) zero = refl
  list-by-lists (r ∷ rs) (suc row) = list-by-lists rs row

  pub cap-by-capacities : (rows : List (Row X)) (row : ℕ) → cap_at rows row ≡ get_or (capacities rows) row 0
  cap-by-capacities [] row = refl
  cap-by-capacities (r ∷ rs) zero = refl
  cap-by-capacities (r ∷ rs) (suc row) = cap-by-capacities rs row

pub empty-list : (X : Type 0) (caps : List ℕ) (row : ℕ) → list_at (empty_rows {X = X} caps) row ≡ []
empty-list X [] row = refl
empty-list X (c ∷ cs) zero = refl
empty-list X (c ∷ cs) (suc row) = empty-list X cs row

pub empty-cap : (X : Type 0) (caps : List ℕ) (row : ℕ) → cap_at (empty_rows {X = X} caps) row ≡ get_or caps row 0
empty-cap X [] row = refl
empty-cap X (c ∷ cs) zero = refl
empty-cap X (c ∷ cs) (suc row) = empty-cap X cs row
