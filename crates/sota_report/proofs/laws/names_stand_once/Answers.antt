use Rattle.std.proofs.Common.{[], refl, arith}
use Rattle.sota_text.specs.Text.{numbered_lines}
use Rattle.sota_report.proofs.Once.{all_sound}
use Rattle.sota_report.proofs.laws.names_stand_once.Goals as goal

pub returns-clause-once : goal.returns-clause-once
returns-clause-once c nodes bytes places h =
    (all_sound nodes [] (numbered_lines bytes) places (record { once = refl; at_nodes = λ k d h. absurd (omega arith) }) h).once

pub returns-clause-nodes : goal.returns-clause-nodes
returns-clause-nodes c nodes bytes places h =
    (all_sound nodes [] (numbered_lines bytes) places (record { once = refl; at_nodes = λ k d h. absurd (omega arith) }) h).at_nodes
