use Rattle.sota_bank.proofs.tests.keeps_rows.Given as goal

abbrev pub ghosts-push_two : goal.ghosts-push_two
ghosts-push_two g a = record { name = a.blank.name; parts = a.blank.parts }
