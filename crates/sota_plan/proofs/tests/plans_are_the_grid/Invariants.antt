use Rattle.sota_plan.proofs.tests.plans_are_the_grid.Given as goal

-- the ledger of each counter is that of its blank
abbrev pub ghosts-all-M-Ledger : goal.ghosts-all-M-Ledger
ghosts-all-M-Ledger g a = record { name = a.products.name; parts = a.products.parts }

abbrev pub ghosts-all-P-Ledger : goal.ghosts-all-P-Ledger
ghosts-all-P-Ledger g a = record { name = a.pushes.name; parts = a.pushes.parts }
