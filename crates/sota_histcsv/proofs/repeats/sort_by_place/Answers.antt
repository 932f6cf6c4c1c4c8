use Rattle.std.proofs.Common.{◌+◌, get_or, rules, arith}
use Rattle.std.proofs.lemmas.List.Sorted.{answers_always}
use Rattle.sota_histcsv.specs.declared.entry.Entry.{Entry}
use Rattle.sota_histcsv.proofs.Repeating.{before_is}
use Rattle.sota_histcsv.proofs.repeats.sort_by_place.Goals as goal

pub returns : goal.returns
returns c =
    let sorted = c.sort_unstable_by_key.ensures.sorted (λ (entry : Entry). (entry.arc, entry.tick, entry.number)) (answers_always _ _ _ (λ a r q k. search rules)) in
    record {
      moved = c.sort_unstable_by_key.ensures.permutation;
      order = λ k d under. before_is (get_or c.sort_unstable_by_key.new.self.items k d) (get_or c.sort_unstable_by_key.new.self.items (k + 1) d) (sorted k d (omega arith) under);
    }
