use Rattle.std.proofs.Common.{◌≡◌, ◌<◌, length, get_or, None, sym, ◌∙◌, ap, arith}
use Rattle.std.proofs.lemmas.List.{get_or_default}
use Rattle.sota_kept.specs.Ticks.{END_LIMIT, up_to}
use Rattle.sota_session.proofs.Cutting.{cut-one}
use Rattle.sota_session.proofs.cut.cut_all.Goals as goal

pub loop-index-preserved : goal.loop-index-preserved
loop-index-preserved c =
    let budgets = c.args.budgets.now in
    let index = c.loop-index.index in
    let within : index < length budgets = omega (arith, c.loop-index-test.true, c.requires, ap length c.fronts-count.ensures.value) in
    let read : get_or budgets index None ≡ c.index-budgets-index.result = get_or_default budgets index None c.index-budgets-index.result within ∙ sym c.index-budgets-index.is in
    let front = c.front_below.ensures ∙ ap (up_to END_LIMIT) (sym read) in
    cut-one budgets index c.front_below.result c.args.tables.now c.loop-index.tables c.cut_to.new.self c.loop-index.invariant within front c.cut_to.ensures.entries c.cut_to.ensures.others
