use Rattle.sota_script.proofs.Confidence.{grain_spelled}
use Rattle.sota_script.proofs.laws.confidences_are_spellings.Goals as goal

pub returns-clause-read : goal.returns-clause-read
returns-clause-read c = grain_spelled
