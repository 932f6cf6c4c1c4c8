use Rattle.std.proofs.Common.{◌≡◌, ◌+◌, ◌<◌, ◌∷◌, [], ◌++◌, length, map, set, take, sym, ◌∙◌, arith, ap, Some, length-take}
use Rattle.std.proofs.lemmas.List.{length-map, map_push, take_more}
use Rattle.sota_bank.specs.Places.{spliced}
use Rattle.sota_bank.proofs.Runs.{replaced-more}
use Rattle.sota_bank.proofs.region.Region.write_all.Goals as goal

pub loop-index-preserved : goal.loop-index-preserved
loop-index-preserved g c =
    let cs = c.args.self.now in let from = c.args.from in let k = c.loop-index.index in let items = c.args.items.now in let item = c.index-items-index.result in
    let less : k < length items = c.loop-index-test.true in
    let qs = map Some (take k items) in
    let long : length qs ≡ k = omega (arith, length-map (take k items) Some, length-take k items) in
    let next : map Some (take (k + 1) items) ≡ qs ++ Some item ∷ [] =
    ap (map Some) (take_more items k item less ∙ ap (λ x. take k items ++ x ∷ []) (sym c.index-items-index.is)) ∙ map_push Some (take k items) item in
    let inside : from + k < length cs = omega (arith, less, c.requires.inside) in
    record {
      written = c.write.ensures ∙ ap (λ rs. set rs (from + k) (Some item)) c.loop-index.invariant.written ∙ replaced-more cs qs from k (Some item) inside long ∙ ap (λ ds. spliced cs from (k + 1) ds) (sym next);
    }
