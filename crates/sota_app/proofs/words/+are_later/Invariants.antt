use Rattle.sota_app.proofs.words.+are_later.Given as goal

abbrev pub decreases-are_later : goal.decreases-are_later
decreases-are_later l = l.room
