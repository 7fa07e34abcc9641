use Rattle.sbpl_serial.proofs.Repairing.{AreRepairedBelow}
use Rattle.sbpl_serial.proofs.repair.recompute_all.Given as goal

abbrev pub invariant-loop-t : goal.invariant-loop-t
invariant-loop-t g l = AreRepairedBelow (g.G.Graph.network l.graph) l.touched l.t-index l.fn.labels l.labels
