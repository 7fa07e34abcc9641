use Rattle.std.proofs.Common.{◌≤◌, arith}
use Rattle.sbpl_open.specs.Entries.{entry_at}
use Rattle.sbpl_open.specs.Heap.{parent, rank}
use Rattle.sbpl_open.proofs.Sifting.{hole_fits, moves_up, next_known}
use Rattle.sbpl_open.proofs.sift.sift_up.Goals as goal

pub fill-requires-clause-few : goal.fill-requires-clause-few
fill-requires-clause-few c =
    let fits = hole_fits c.loop-hole.invariant.stands in
    omega (arith, c.requires.few, c.loop-hole.invariant.states)

pub fill-requires-clause-state : goal.fill-requires-clause-state
fill-requires-clause-state c =
    let stands = c.loop-hole.invariant.stands in
    next_known c.loop-hole.heap c.loop-hole.slots c.loop-hole.hole (parent c.loop-hole.hole) c.args.entry stands
    (omega (arith, stands.inside)) (omega arith)

pub loop-hole-preserved : goal.loop-hole-preserved
loop-hole-preserved c =
    let lower : rank c.args.entry ≤ rank (entry_at c.loop-hole.heap (parent c.loop-hole.hole)) = omega arith in
    rw (c.fill.ensures.heap, c.fill.ensures.slots) (moves_up c.loop-hole.invariant (omega arith) lower)
