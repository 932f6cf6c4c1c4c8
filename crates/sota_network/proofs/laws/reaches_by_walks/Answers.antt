use Rattle.std.proofs.Common.{◌<◌, ◌≤◌, sym, ◌∙◌, ⊎_elim}
use Rattle.std.proofs.lemmas.Bool.{cases_lt, true≢false}
use Rattle.sota_network.proofs.Reaching.{reach-walk, walk-reaches}
use Rattle.sota_network.proofs.Below.{zero-at}
use Rattle.sota_network.proofs.Walking.{walk-then}
use Rattle.sota_network.proofs.laws.reaches_by_walks.Goals as goal

pub returns : goal.returns
returns c = record {
  walk = λ net dest i j t valid sure. reach-walk net valid dest j i t sure;
  reach = λ net dest i j t n valid walk fits. walk-reaches net valid dest walk t fits;
  below = λ net dest i t valid none.
      zero-at net valid dest i t
      (λ n walk.
      ⊎_elim
      (λ (less : t < n). less)
      (λ (fits : n ≤ t). absurd (true≢false (sym (walk-reaches net valid dest walk t fits) ∙ none)))
      (cases_lt t n));
  joined = λ net dest i j k n m one other. walk-then net dest one other;
}
