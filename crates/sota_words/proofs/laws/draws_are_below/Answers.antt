use Rattle.sota_words.proofs.Bounds.{drawn_below}
use Rattle.sota_words.proofs.laws.draws_are_below.Goals as goal

pub returns : goal.returns
returns c = drawn_below
