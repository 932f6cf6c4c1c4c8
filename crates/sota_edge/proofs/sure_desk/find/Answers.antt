use Rattle.std.proofs.Common.{Some, option_map, sym, ◌∙◌, ap}
use Rattle.sota_edge.proofs.Names.{files_text}
use Rattle.sota_edge.proofs.sure_desk.find.Goals as goal

pub returns-in-Some : goal.returns-in-Some
returns-in-Some c = ap Some c.as_slice.ensures.value
    ∙ ap (option_map (λ bytes. bytes.items)) c.in-Some.ensures.value
    ∙ sym (files_text c.args.named.now c.args.name.now)

pub returns-in-None : goal.returns-in-None
returns-in-None c = ap (option_map (λ bytes. bytes.items)) c.in-None.ensures.value
    ∙ sym (files_text c.args.named.now c.args.name.now)
