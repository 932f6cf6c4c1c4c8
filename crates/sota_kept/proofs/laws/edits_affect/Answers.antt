use Rattle.sota_kept.proofs.Affecting.{first_affected-is}
use Rattle.sota_kept.proofs.Edited.{edit-under, edit-to, edit-onward, edit-tick}
use Rattle.sota_kept.proofs.laws.edits_affect.Goals as goal

pub returns : goal.returns
returns c = record {
  entries = λ net dest number first i t arc time to onward is before after early. edit-under c.network_laws.ensures net dest number arc first time is i t to onward before after early;
  to_tail = λ net dest number first i arc time to is before. edit-to c.network_laws.ensures net dest number arc first time is i to before;
  from_head = λ net dest number first arc time onward is after. edit-onward c.network_laws.ensures net dest number arc first time is onward after;
  same_tick = λ net dest number first i j arc time least is tick closed before. edit-tick c.network_laws.ensures net dest number arc first time is i j tick closed least before;
  up_to_limit = λ net dest first i arc to onward valid before after. first_affected-is net (c.network_laws.ensures net valid) dest arc first i to onward before after;
}
