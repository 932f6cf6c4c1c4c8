use Rattle.std.proofs.Common.{ℕ, ◌+◌, ◌*◌, ◌<◌, List, max, slice_index, inl, inr, ◌∙◌, ap, subst}
use Rattle.sota_network.specs.Network.{Net}
use Rattle.sota_network.specs.Grid.{plain_sum}
use Rattle.sota_kept.specs.NodeTables.{upper_in}
use Rattle.sota_tables.specs.Views.{table_at}
use Rattle.sota_fill.proofs.Below.{far-upper}
use Rattle.sota_fill.proofs.bests.add_arc.Goals as goal

pub returns-then-is_far_below-clause-upper : goal.returns-then-is_far_below-clause-upper
returns-then-is_far_below-clause-upper g c = λ arc at x h.
    let net : Net = c.args.sources.now.target.now.network.now in
    let laws = c.filling_laws.ensures net c.scale-scale.ensures.valid in
    let most : ℕ = c.add_lower-most.result in
    let to : ℕ = c.args.from + c.args.count in
    let far : most + net.scale * (2 * to) < net.scale * c.args.floor = subst (λ (q : ℕ). most + q * (2 * to) < q * c.args.floor) c.scale-scale.ensures.value (c.is_far_below.ensures c.if-is_far_below.true) in
    inr (
      ap (λ (us : List ℕ). slice_index us x) c.add_lower-most.ensures.upper,
      far-upper net laws c.args.sources.now.target.now.dest (table_at c.args.sources.now.tables.now) arc c.args.from c.args.count x most c.args.floor (laws.arc c.args.number arc at) (c.requires.sum.reads arc at) h (c.add_lower-most.ensures.last arc at) far,
    )

pub returns-clause-upper : goal.returns-clause-upper
returns-clause-upper g c = λ arc at x h.
    let sum : ℕ = plain_sum arc (upper_in c.args.sources.now.target.now.dest (table_at c.args.sources.now.tables.now)) (c.args.from + x) in
    inl (c.add_upper.ensures.upper arc at x h ∙ ap (λ (us : List ℕ). max (slice_index us x) sum) c.add_lower-most.ensures.upper)
