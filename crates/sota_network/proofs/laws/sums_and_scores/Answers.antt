use Rattle.sota_network.proofs.Sums.{weighed-in, weighed-out, weighed-le, weighed-agree, weighed-bound}
use Rattle.sota_network.proofs.Rising.{weighed-rises}
use Rattle.sota_network.proofs.Reading.{weighed-same}
use Rattle.sota_network.proofs.Below.{least-le, least-first, paired-open}
use Rattle.sota_network.proofs.Outward.{ceiling-up, score-at_dest, score-stop, score-go, scores-in, scores-out, scores-end}
use Rattle.sota_network.proofs.Gap.{floor-down, floor-le, floor-le-ceiling, ceiling-gap, ceiling-le}
use Rattle.sota_network.proofs.laws.sums_and_scores.Goals as goal

pub returns : goal.returns
returns c = record {
  sums = record {
    inside = λ v t p ps h. weighed-in v t p ps h;
    outside = λ v t p ps h. weighed-out v t p ps h;
    near = λ v w g t time rises h. weighed-le v w g t 0 h time rises;
    same = λ v w t time rises h. weighed-agree v w t 0 h time rises;
    agree = λ v w t pairs h. weighed-same v w t pairs h;
    whole = λ v m t time rises h. weighed-bound v m t 0 h time rises;
    rise = λ v t u time rises h later. weighed-rises v t u 0 h later time rises;
  };
  ticks = record {
    above = λ floor pairs rises. least-le floor pairs rises;
    least = λ time rises. least-first 0 time rises;
    opened = λ pairs k p at. paired-open pairs k p at;
  };
  rounding = record {
    down = λ q x. floor-down q x;
    up = λ q x some. ceiling-up q x some;
    order = λ q x y some less. floor-le-ceiling q y x some less;
    gap = λ q x y g some more. ceiling-gap q y x g some more;
    whole = λ q x m some most. (floor-le q x m some most, ceiling-le q x m some most);
  };
  scores = record {
    arrived = λ net dest i t tree at. score-at_dest net dest i t tree at;
    stopped = λ net dest i t off. score-stop net dest i t off;
    taken = λ net dest i t e arc trees off is. score-go net dest i t e arc trees off is;
    inside = λ net dest j t p ps child rest h. scores-in net dest j t p ps child rest h;
    outside = λ net dest j t p ps child rest h. scores-out net dest j t p ps child rest h;
    none = λ net dest j t trees. scores-end net dest j t trees;
  };
}
