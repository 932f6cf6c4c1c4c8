use Rattle.sota_quantile.proofs.tests.need.Given as goal

-- the ledger of each counter is that of its blank
abbrev pub ghosts-need_counted-M-Ledger : goal.ghosts-need_counted-M-Ledger
ghosts-need_counted-M-Ledger a = record { name = a.products.name; parts = a.products.parts }

abbrev pub ghosts-need_counted-P-Ledger : goal.ghosts-need_counted-P-Ledger
ghosts-need_counted-P-Ledger a = record { name = a.pushes.name; parts = a.pushes.parts }
