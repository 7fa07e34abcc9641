use Rattle.sbpl_epase.proofs.parallel.share_as.Given as goal

abbrev pub ghosts-line_as : goal.ghosts-line_as
ghosts-line_as g a = record { line = a.line }
