use Rattle.sota_polfile.proofs.BracketParts.{faulty}
use Rattle.sota_polfile.proofs.bracket_table.BracketTable.from_parts.Goals as goal

pub returns-in-Some-clause-valid : goal.returns-in-Some-clause-valid
returns-in-Some-clause-valid c =
    (λ t. absurd cc, λ h. absurd (faulty c.args.head c.args.rows.items c.in-Some.fault (rw c.deref.ensures.value at c.in-Some.ensures.value) h))
