use Rattle.std.proofs.Common.{slice_index}
use Rattle.sbpl_heur.specs.Caps.{IsFarthestReached}
use Rattle.sbpl_heur.proofs.cap.farthest.Given as goal

abbrev pub invariant-loop-distance : goal.invariant-loop-distance
invariant-loop-distance l = IsFarthestReached (slice_index l.distances) l.distance-index l.most
