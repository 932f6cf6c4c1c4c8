use Rattle.sota_session.proofs.tests.ask.Given as goal

-- the ledger of each counter is that of its blank
abbrev pub ghosts-ask_counted-M-Ledger : goal.ghosts-ask_counted-M-Ledger
ghosts-ask_counted-M-Ledger a = record { name = a.products.name; parts = a.products.parts }

abbrev pub ghosts-ask_counted-P-Ledger : goal.ghosts-ask_counted-P-Ledger
ghosts-ask_counted-P-Ledger a = record { name = a.pushes.name; parts = a.pushes.parts }
