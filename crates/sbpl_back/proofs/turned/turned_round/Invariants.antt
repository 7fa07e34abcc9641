use Rattle.std.proofs.Common.{drop}
use Rattle.sbpl_cost.specs.Lattices.{network_of}
use Rattle.sbpl_back.proofs.Walking.{IsWalked}
use Rattle.sbpl_back.proofs.turned.turned_round.Given as goal

abbrev pub invariant-loop-number : goal.invariant-loop-number
invariant-loop-number l = IsWalked (network_of l.lattice) l.from l.path l.at (drop l.number-index l.path) l.arcs.items
