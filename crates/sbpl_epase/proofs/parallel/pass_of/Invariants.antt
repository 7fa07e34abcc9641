use Rattle.sbpl_epase.proofs.parallel.pass_of.Given as goal

abbrev pub ghosts-share_as-M-Naming : goal.ghosts-share_as-M-Naming
ghosts-share_as-M-Naming g a = record { table = a.claims }

abbrev pub ghosts-share_as-M-Second : goal.ghosts-share_as-M-Second
ghosts-share_as-M-Second g a = record { takes = a.takes.name; parts = a.workers }
