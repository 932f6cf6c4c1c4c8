use Rattle.sota_period.proofs.tests.one_period_is_plain.Given as goal

-- the ledger of the counter is that of its blank
abbrev pub ghosts-all : goal.ghosts-all
ghosts-all g a = record { name = a.blank.name; parts = a.blank.parts }
