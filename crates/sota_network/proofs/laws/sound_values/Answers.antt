use Rattle.sota_network.proofs.Attained.{sound-attained}
use Rattle.sota_network.proofs.Gap.{sound-whole}
use Rattle.sota_network.proofs.laws.sound_values.Goals as goal

pub returns : goal.returns
returns c = record {
  attained = λ net dest values rule valid sound i t. sound-attained net valid dest values rule sound i t;
  whole = λ net dest values rule valid sound i t. sound-whole net valid dest values rule sound i t;
}
