use Rattle.sota_app.proofs.top.do_task.Given as goal

-- the ledger of the products is that of the blank
abbrev pub ghosts-play_lines : goal.ghosts-play_lines
ghosts-play_lines g a = record { name = a.blank.name; parts = a.blank.parts }

abbrev pub ghosts-show_plan : goal.ghosts-show_plan
ghosts-show_plan g a = record { name = a.blank.name; parts = a.blank.parts }

abbrev pub ghosts-answer_timed : goal.ghosts-answer_timed
ghosts-answer_timed g a = record { name = a.blank.name; parts = a.blank.parts }
