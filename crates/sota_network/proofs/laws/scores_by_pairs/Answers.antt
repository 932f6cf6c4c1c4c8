use Rattle.sota_network.proofs.Pairs.{power-parts, step-up, step-down, close-up, close-down}
use Rattle.sota_network.proofs.laws.scores_by_pairs.Goals as goal

pub returns : goal.returns
returns c = record {
  parts = λ q s t some within. power-parts q s t some within;
  above = λ w m q A B T score v sum scores e here more. step-up w m q A B T score v sum scores e here more;
  below = λ w m q A B T score v sum scores e here more. step-down w m q A B T score v sum scores e here more;
  node_above = λ w q scores sum v T some more up. close-up w q scores sum v T some more up;
  node_below = λ w q scores sum v T some more down. close-down w q scores sum v T some more down;
}
