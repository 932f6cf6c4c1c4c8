use Rattle.sota_bank.proofs.Regrows.{Moved}
use Rattle.sota_bank.proofs.bank.RowBank.regrow.Given as goal

abbrev pub invariant-loop-row : goal.invariant-loop-row
invariant-loop-row g l = Moved l.fn.self l.self l.grown l.caps l.row
