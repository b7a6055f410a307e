use Rattle.flow_times.proofs.solving.phases.Given as goal

abbrev pub ghosts-phases_on : goal.ghosts-phases_on
ghosts-phases_on a = record { name = a.blank.name; parts = a.blank.parts }
