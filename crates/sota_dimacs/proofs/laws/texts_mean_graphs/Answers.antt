use Rattle.std.proofs.Common.{Ok, sym}
use Rattle.sota_dimacs.proofs.GraphTexts.{answer_valid}
use Rattle.sota_dimacs.proofs.laws.texts_mean_graphs.Goals as goal

pub returns : goal.returns
returns c = λ bytes graph is. answer_valid bytes (Ok graph) (sym is)
