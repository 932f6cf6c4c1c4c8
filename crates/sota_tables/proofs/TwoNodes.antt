-- The tables of the test.
use Rattle.std.proofs.Common.{ℕ, ◌≡◌, ◌≤◌, [], ◌∷◌, length, refl, ◌∙◌, ap, arith}
use Rattle.std.specs.List.{sum}
use Rattle.std.proofs.lemmas.Bool.{le-leb}
use Rattle.sota_network.specs.Numbers.{listed}
use Rattle.sota_kept.specs.States.{KEPT_LIMIT}
use Rattle.sota_kept.specs.NodeTables.{NodeTable, emptied_table, rebased_table}
use Rattle.sota_tables.specs.Views.{TablesView, table_at, row_needed}

-- begun afresh with this base
pub fresh : (old mid new : NodeTable) (b : ℕ) → mid ≡ emptied_table old → new ≡ rebased_table b mid → new ≡ record { front = 0; base = b; lower = []; upper = []; choices = [] }
fresh old mid new b one two = two ∙ ap (rebased_table b) one ∙ (rw (le-leb 0 b (omega arith)) refl)

pub total-two : (v : TablesView) → length v.fronts ≡ 2 → (table_at v 1).front ≡ 0 → (table_at v 2).front ≡ 0 → sum (listed (row_needed v (3 ∷ 0 ∷ [])) (length v.fronts)) ≤ KEPT_LIMIT
total-two v long one two =
    let first : row_needed v (3 ∷ 0 ∷ []) 1 ≤ 3 = omega (arith, one) in
    let second : row_needed v (3 ∷ 0 ∷ []) 2 ≤ 0 = omega (arith, two) in
    rw long (omega arith)
