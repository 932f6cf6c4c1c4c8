use Rattle.sota_bank.proofs.tests.banks_are_freed.Given as goal

abbrev pub ghosts-make_and_drop_often : goal.ghosts-make_and_drop_often
ghosts-make_and_drop_often a = record { name = a.blank.name; parts = a.blank.parts }
