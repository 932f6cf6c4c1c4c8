use Rattle.std.proofs.Common.{ℕ, ◌≡◌, List, get_or, sym, ◌∙◌, ap}
use Rattle.std.proofs.lemmas.Bool.{eq-eqb, true≢false}
use Rattle.std.proofs.lemmas.List.{get_or_default}
use Rattle.sota_network.specs.Network.{Net}
use Rattle.sota_period.specs.Periods.{no_net}
use Rattle.sota_period.proofs.Filling.{next-is}
use Rattle.sota_period.proofs.plan.find_next.Goals as goal

pub returns : goal.returns
returns c =
    let periods : List (ℕ × Net) = c.args.ask.now.timed.now in
    let k : ℕ = c.find_period-place.result in
    let item : ℕ × Net = c.index-periods-place.result in
    let read : get_or c.periods.result.now k item ≡ get_or periods k (0, no_net) =
    ap (λ (ps : List (ℕ × Net)). get_or ps k item) c.periods.ensures.value ∙ get_or_default periods k item (0, no_net) c.find_period-place.ensures.within in
    let off : c.args.node ≡ c.args.ask.now.dest → ⊥ = λ same. true≢false (sym (eq-eqb c.args.node c.args.ask.now.dest same) ∙ sym c.eq.ensures ∙ c.if-eq.false) in
    c.choose.ensures
    ∙ next-is c.network_laws.ensures c.args.ask.now c.requires.ask c.requires.bound (get_or c.periods.result.now k item).1 (c.find_period-place.ensures.holds ∙ ap (λ (p : ℕ × Net). p.1) (sym read)) c.args.rows.now c.requires.rows c.args.node off c.requires.need
