use Rattle.std.proofs.Common.{◌≡◌, true, ◌∙◌, ap}
use Rattle.rand_pcg.specs.Lcg.{Lcg}
use Rattle.sota_make.specs.Made.{MADE_SCALE, is_size, made_arcs}
use Rattle.sota_make.proofs.make.make_network.Goals as goal

pub build-requires-clause-valid : goal.build-requires-clause-valid
build-requires-clause-valid c =
    let sizes : is_size c.args.nodes c.args.arcs c.args.span ≡ true = cc in
    let scale : c.unwrap-scale.result ≡ MADE_SCALE = rw c.unwrap-scale.ensures at c.new-2.ensures.value in
    let list = c.in_ok-list.ensures ∙ ap (λ (words : Lcg). made_arcs c.args.nodes c.args.span c.args.arcs 1 words) c.new.ensures in
    rw (scale, list) (c.made_networks.ensures.valid c.args.seed c.args.nodes c.args.arcs c.args.span sizes)
