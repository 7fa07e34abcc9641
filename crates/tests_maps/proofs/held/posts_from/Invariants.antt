use Rattle.tests_maps.proofs.held.posts_from.Given as goal

abbrev pub ghosts-posts_as : goal.ghosts-posts_as
ghosts-posts_as g a = record { line = a.line }
