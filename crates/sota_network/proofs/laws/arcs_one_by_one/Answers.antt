use Rattle.sota_network.proofs.Among.{best-step, choice-step, best-end, choice-end, worth-out, out-read}
use Rattle.sota_network.proofs.laws.arcs_one_by_one.Goals as goal

pub returns : goal.returns
returns c = record {
  best_step = λ worth es k e old sum new h is was has more. best-step worth es k e old sum new h is was has more;
  choice_step = λ worth es k e old sum was new h is is_old has is_was is_new. choice-step worth es k e old sum was new h is is_old has is_was is_new;
  best_end = λ net worth node es k same past. best-end net worth node es k same past;
  choice_end = λ net worth node es k same past. choice-end net worth node es k same past;
  number = λ net worth e arc is. worth-out net worth e arc is;
  leaving = λ net node k e es same h is. out-read net node k e es same h is;
}
