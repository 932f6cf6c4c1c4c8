use Rattle.sota_period.proofs.tests.hours_decide.Given as goal

-- the ledger of the counter is that of its blank
abbrev pub ghosts-rows : goal.ghosts-rows
ghosts-rows g a = record { name = a.blank.name; parts = a.blank.parts }
