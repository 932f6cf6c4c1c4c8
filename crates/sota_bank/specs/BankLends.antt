-- What a bank ends as, once a `&mut` into it has ended.
use Rattle.std.specs.Prelude.{ℕ, List}
use Rattle.std.specs.Borrow.{Fml, RattleType, MutBor, Array, Lends}
use Rattle.sota_bank.specs.Rows.{Row, list_at, with_list, overwritten}
use Rattle.sota_bank.specs.contracts.bank.RowBank.{the_row}

-- the entries of the window are the last ones written through r, and all else stays
abbrev pub lends_window : (R : RattleType) → MutBor (List (Row R.Denot)) → ℕ → ℕ → ℕ
    → MutBor (List R.Denot) → Fml
lends_window R bank row from to r = Lends (the_row R) (Array R 0) bank r
    (λ ws. with_list bank.now row (overwritten (list_at bank.now row) from to ws))
