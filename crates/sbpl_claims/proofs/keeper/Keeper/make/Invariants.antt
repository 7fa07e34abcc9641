use Rattle.sbpl_claims.proofs.keeper.Keeper.make.Given as goal

abbrev pub ghosts-make_as : goal.ghosts-make_as
ghosts-make_as g a = record { state = a.state; arc = a.arc }
