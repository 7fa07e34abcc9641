use Rattle.tests_maps.proofs.claims.settled_in_the_other_order.Given as goal

abbrev pub ghosts-nothing_out : goal.ghosts-nothing_out
ghosts-nothing_out a = record { table = a.claims }
