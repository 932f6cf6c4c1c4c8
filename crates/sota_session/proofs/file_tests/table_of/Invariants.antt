use Rattle.sota_session.proofs.file_tests.table_of.Given as goal

-- the ledger of each counter is that of its blank
abbrev pub ghosts-table_counted-M-Ledger : goal.ghosts-table_counted-M-Ledger
ghosts-table_counted-M-Ledger a = record { name = a.products.name; parts = a.products.parts }

abbrev pub ghosts-table_counted-P-Ledger : goal.ghosts-table_counted-P-Ledger
ghosts-table_counted-P-Ledger a = record { name = a.pushes.name; parts = a.pushes.parts }
