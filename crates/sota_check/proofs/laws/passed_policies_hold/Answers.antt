use Rattle.std.proofs.Common.{◌∙◌}
use Rattle.sota_check.proofs.Judged.{only-if, passed-holds, rejected-row}
use Rattle.sota_check.proofs.laws.passed_policies_hold.Goals as goal

pub returns : goal.returns
returns c = record {
  holds = λ net table none. passed-holds net table (c.entries_stand_in_rows.ensures.only table) none;
  passes = λ net table is holds.
      rejected-row net table holds.nodes holds.scale ∙ only-if net table (λ k j row entry at here. c.entries_stand_in_rows.ensures.there table k j row entry is at here) holds;
}
