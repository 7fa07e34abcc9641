use Rattle.std.proofs.Common.{take, slice_index_or}
use Rattle.std.proofs.lemmas.List.{take_more}
use Rattle.sbpl_frontier_core.proofs.Filling.{filled_left, filled_put}
use Rattle.sbpl_frontier_core.proofs.space.refill.Goals as goal
use Rattle.sbpl_frontier_core.proofs.space.refill.Goals.{in-Some, in_default}

pub loop-s-preserved : goal.loop-s-preserved
loop-s-preserved g c =
    let states = c.args.states.now in
    let i = c.loop-s.s-index in
    let s = slice_index_or states i 0 in
    let inside = c.requires.inside i 0 c.loop-s-test.true in
    rw (take_more states i 0 c.loop-s-test.true)
    (elim c.match-over_key.branch [
      | in-Some w ↦ rw w.queue-is
          (filled_put (take i states) s (w.in-Some.key.0, w.in-Some.key.1) c.loop-s.invariant inside
          w.in-Some.ensures.key.0 w.in-Some.ensures.key.1 w.put.ensures.changed)
      | in_default w ↦ rw w.queue-is (filled_left (take i states) s c.loop-s.invariant w.in_default.ensures.key)
    ])
