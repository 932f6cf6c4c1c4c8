use Rattle.std.proofs.Common.{ℕ, ◌≡◌, ◌+◌, ◌*◌, ◌<◌, ◌≤◌, List, take, length, slice_index, None, sym, ◌∙◌, ap, arith}
use Rattle.std.proofs.lemmas.List.{get_or-take}
use Rattle.sota_units.specs.Rounding.{ONE, floor_by, ceiling_by}
use Rattle.sota_network.specs.Network.{Net}
use Rattle.sota_network.specs.Grid.{best_sum}
use Rattle.sota_kept.specs.NodeTables.{lower_in, upper_in}
use Rattle.sota_tables.specs.Views.{table_at}
use Rattle.sota_fill.proofs.Summed.{take-long}
use Rattle.sota_fill.proofs.Pushing.{best-lower_le, best-upper_le, entries-grid, longer-ready}
use Rattle.sota_fill.proofs.fill.push_bests.Goals as goal

pub round-requires-clause-small : goal.round-requires-clause-small
round-requires-clause-small g c = λ x less.
    let net : Net = c.args.target.now.network.now in
    let most : best_sum net (lower_in c.args.target.now.dest (table_at c.args.tables.now)) c.args.node (c.args.from + x) ≤ net.scale * ONE =
    best-lower_le net (c.filling_laws.ensures net c.scale-scale.ensures.valid) c.args.target.now.dest (table_at c.args.tables.now) c.requires.unfilled.ready c.args.node (c.args.from + x) in
    omega (arith, most, c.requires.lower x less, c.scale-scale.ensures.value)

pub round-requires-2-clause-small : goal.round-requires-2-clause-small
round-requires-2-clause-small g c = λ x less.
    let net : Net = c.args.target.now.network.now in
    let most : best_sum net (upper_in c.args.target.now.dest (table_at c.args.tables.now)) c.args.node (c.args.from + x) ≤ net.scale * ONE =
    best-upper_le net (c.filling_laws.ensures net c.scale-scale.ensures.valid) c.args.target.now.dest (table_at c.args.tables.now) c.requires.unfilled.ready c.args.node (c.args.from + x) in
    omega (arith, most, c.requires.upper x less, c.scale-scale.ensures.value)

pub returns-clause-ready : goal.returns-clause-ready
returns-clause-ready g c =
    let net : Net = c.args.target.now.network.now in
    let dest : ℕ = c.args.target.now.dest in
    let n : ℕ = c.args.count in
    let floors : List ℕ = c.round.new.into in
    let ceilings : List ℕ = c.round-2.new.into in
    let choices = c.args.part.now.choices in
    let long : length (take n floors) ≡ n = take-long n floors (omega (arith, c.requires.count, c.round.ensures.room)) in
    let found =
    entries-grid net (c.filling_laws.ensures net c.scale-scale.ensures.valid) dest c.args.node c.args.from (c.args.from + n) c.args.tables.now (take n floors) (take n ceilings) (take n choices) c.args.part.now.lower c.args.part.now.upper c.requires.unfilled
    (omega (arith, long)) (take-long n ceilings (omega (arith, c.requires.count, c.round-2.ensures.room)) ∙ sym long) (take-long n choices (omega (arith, c.requires.count)) ∙ sym long)
    (λ x less. let h : x < n = omega (arith, less, long) in get_or-take n floors x 0 h ∙ c.round.ensures.values x h ∙ ap (λ (q : ℕ). floor_by q (slice_index c.args.part.now.lower x)) c.scale-scale.ensures.value)
    (λ x less. let h : x < n = omega (arith, less, long) in get_or-take n ceilings x 0 h ∙ c.round-2.ensures.values x h ∙ ap (λ (q : ℕ). ceiling_by q (slice_index c.args.part.now.upper x)) c.scale-scale.ensures.value)
    (λ x less. c.requires.lower x (omega (arith, less, long)))
    (λ x less. c.requires.upper x (omega (arith, less, long)))
    (λ x less. let h : x < n = omega (arith, less, long) in get_or-take n choices x None h ∙ c.requires.choices x h) in
    longer-ready net dest c.args.node c.args.from (c.args.from + n) c.args.tables.now c.push_extent.new.self (take n floors) (take n ceilings) (take n choices) c.requires.unfilled found (omega (arith, long, c.requires.unfilled.some)) (omega (arith, long))
    c.push_extent.ensures.others c.push_extent.ensures.entries
