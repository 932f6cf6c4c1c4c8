use Rattle.sota_tables.proofs.tests.keeps_entries.Given as goal

abbrev pub ghosts-push_two : goal.ghosts-push_two
ghosts-push_two g a = record { name = a.blank.name; parts = a.blank.parts }
