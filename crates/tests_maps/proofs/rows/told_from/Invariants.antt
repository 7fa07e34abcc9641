use Rattle.tests_maps.proofs.rows.told_from.Given as goal

abbrev pub ghosts-told_as : goal.ghosts-told_as
ghosts-told_as g a = record { line = a.line }
