use Rattle.std.proofs.Common.{ℕ, ◌≤◌}
use Rattle.sota_network.proofs.Listed.{length-listed, listed-at, listed-agree, All-listed, items-listed}
use Rattle.sota_network.proofs.laws.lists_by_number.Goals as goal

pub returns : goal.returns
returns c = record {
  count = λ f n. length-listed f n;
  entry = λ f n i other low high. listed-at f n i other low high;
  agree = λ f g n same. listed-agree f g n same;
  within = λ f n most bound. All-listed (λ (x : ℕ). x ≤ most) f n bound;
  items = λ items f n long each. items-listed items f n 0 long each;
}
