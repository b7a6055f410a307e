use Rattle.flow_rows.proofs.tests.phased.Given as goal

abbrev pub ghosts-phased_on : goal.ghosts-phased_on
ghosts-phased_on a = record { name = a.blank.name; parts = a.blank.parts }
