use Rattle.std.proofs.Common.{rules, ℕ, List, length, Result, subst}
use Rattle.std.specs.List.Sorted.{IsSearchInRange, IsBinarySearchResult}
use Rattle.std.specs.Ordering.{nat_cmp}
use Rattle.std.proofs.lemmas.List.Sorted.{answers_always}
use Rattle.sota_polfile.specs.declared.row.PolicyRow.{PolicyRow}
use Rattle.sota_polfile.proofs.Search.{searched}
use Rattle.sota_polfile.proofs.table.PolicyTable.place.Goals as goal

pub returns : goal.returns
returns c =
    let facts = c.binary_search_by_key.ensures in
    let r : Result ℕ ℕ = c.binary_search_by_key.result in
    let by_node = facts.position (λ (row : PolicyRow). row.node) (answers_always _ _ _ (λ f a r g called. search rules)) in
    let within : IsSearchInRange r (length c.args.self.now.rows) = subst (λ (rows : List PolicyRow). IsSearchInRange r (length rows)) c.rows.ensures.value facts.bound in
    let parted : IsBinarySearchResult (λ (row : PolicyRow). nat_cmp row.node c.args.node) c.args.self.now.rows r =
    subst (λ (rows : List PolicyRow). IsBinarySearchResult (λ (row : PolicyRow). nat_cmp row.node c.args.node) rows r) c.rows.ensures.value by_node in
    let s = searched c.args.self.now.rows c.rows.ensures.valid.rising c.args.node r within parted in
    record { within = s.within; found = s.found; absent = s.absent; between = s.between; end = s.end }
