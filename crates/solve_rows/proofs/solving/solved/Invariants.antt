use Rattle.solve_rows.proofs.solving.solved.Given as goal

abbrev pub ghosts-solved_on : goal.ghosts-solved_on
ghosts-solved_on a = record { name = a.blank.name; parts = a.blank.parts }
