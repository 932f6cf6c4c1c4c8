use Rattle.std.proofs.Common.{rules, ◌≡◌, replicate}
use Rattle.sota_fill.proofs.ArcPlaced.{placed-none}
use Rattle.sota_fill.proofs.arc_map.ArcMap.new.Goals as goal

pub returns : goal.returns
returns g c =
    let places : c.in_ok-places.places.items ≡ replicate c.args.arcs 0 = c.in_ok-places.ensures.items_if_clones_equal (λ y e. search rules) in
    rw places (placed-none c.args.arcs _)
