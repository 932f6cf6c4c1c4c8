use Rattle.std.proofs.Common.{◌++◌, length, take_at, ◌-◌, take, drop, refl, sym, ap, ◌∙◌}
use Rattle.sota_bank.specs.Places.{somes}
use Rattle.sota_bank.specs.Rows.{list_at}
use Rattle.sota_bank.proofs.Runs.{somes-map}
use Rattle.sota_bank.proofs.Changes.{window_run, window_lent}
use Rattle.sota_bank.proofs.bank.RowBank.window.Goals as goal

pub slice_mut-requires : goal.slice_mut-requires
slice_mut-requires g c = (window_run c.self.inside.chunks.items c.self.inside.region c.self.invariant c.args.self.now c.self.view_is c.args.row c.requires.row c.index-chunk.result.now c.index-chunk.ensures c.args.from c.args.to c.requires.part.0 c.requires.part.1).0

pub invariant_of-self-lent : goal.invariant_of-self-lent
invariant_of-self-lent g c = λ w. (window_lent c.self.inside.chunks.items c.self.inside.region c.self.invariant c.args.self.now c.self.view_is c.args.row c.requires.row c.index-chunk.result.now c.index-chunk.ensures c.args.from c.args.to w c.requires.part.0 c.requires.part.1).0

pub returns : goal.returns
returns g c =
    let from = c.args.from in let to = c.args.to in let ws = c.slice_mut.result.now in let xs = take (to - from) (drop from (list_at c.args.self.now c.args.row)) in (
      (refl, λ w. (window_lent c.self.inside.chunks.items c.self.inside.region c.self.invariant c.args.self.now c.self.view_is c.args.row c.requires.row c.index-chunk.result.now c.index-chunk.ensures from to w c.requires.part.0 c.requires.part.1).1),
      record {
        writes_back = tt;
        value = sym (somes-map ws) ∙ ap somes (sym c.slice_mut.ensures.value ∙ (window_run c.self.inside.chunks.items c.self.inside.region c.self.invariant c.args.self.now c.self.view_is c.args.row c.requires.row c.index-chunk.result.now c.index-chunk.ensures from to c.requires.part.0 c.requires.part.1).1) ∙ somes-map xs;
        as_written = λ ws e. ap (λ l. take from (list_at c.args.self.now c.args.row) ++ (l ++ drop to (list_at c.args.self.now c.args.row))) (take_at ws (drop (length ws) xs) (to - from) e);
      },
    )
