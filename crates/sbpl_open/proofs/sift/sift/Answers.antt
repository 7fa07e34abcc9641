use Rattle.std.proofs.Common.{arith}
use Rattle.sbpl_open.proofs.Sifting.{entry_known, hole_fits}
use Rattle.sbpl_open.proofs.sift.sift.Goals as goal

pub fill-requires-clause-few : goal.fill-requires-clause-few
fill-requires-clause-few c =
    let fits = hole_fits c.sift_down-hole.ensures.hole in
    omega (arith, c.requires.few)

pub fill-requires-clause-state : goal.fill-requires-clause-state
fill-requires-clause-state c = entry_known c.sift_down-hole.ensures.hole
