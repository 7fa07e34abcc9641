use Rattle.std.proofs.Common.{◌≤◌, arith}
use Rattle.sbpl_open.specs.Entries.{entry_at}
use Rattle.sbpl_open.specs.Heap.{rank}
use Rattle.sbpl_open.proofs.Sifting.{child_apart, hole_fits, moves_after, moves_down, next_known}
use Rattle.sbpl_open.proofs.sift.sift_down.Goals as goal

pub fill-requires-clause-few : goal.fill-requires-clause-few
fill-requires-clause-few c =
    let moving = c.loop-below.invariant.0 in
    let fits = hole_fits moving.stands in
    omega (arith, c.requires.few, moving.states)

pub fill-requires-clause-state : goal.fill-requires-clause-state
fill-requires-clause-state c =
    let child = c.in-Some.ensures.child in
    let apart = child_apart c.loop-below.heap c.loop-below.hole c.in-Some.below child in
    next_known c.loop-below.heap c.loop-below.slots c.loop-below.hole c.in-Some.below c.args.entry
    c.loop-below.invariant.0.stands child.inside apart

pub loop-below-preserved : goal.loop-below-preserved
loop-below-preserved c =
    let moving = c.loop-below.invariant.0 in
    let child = c.in-Some.ensures.child in
    let lower : rank (entry_at c.loop-below.heap c.in-Some.below) ≤ rank c.args.entry = omega arith in
    rw (c.fill.ensures.heap, c.fill.ensures.slots) (
      moves_down c.loop-below.heap c.loop-below.slots c.loop-below.hole c.in-Some.below c.args.entry moving child lower,
      moves_after c.loop-below.heap c.loop-below.slots c.loop-below.hole c.in-Some.below
          c.args.entry moving child lower,
    )

pub returns-then-not-comes_before-clause-hole : goal.returns-then-not-comes_before-clause-hole
returns-then-not-comes_before-clause-hole c = c.loop-below.invariant.0.stands

pub returns-then-not-comes_before-clause-keys : goal.returns-then-not-comes_before-clause-keys
returns-then-not-comes_before-clause-keys c = c.loop-below.invariant.0.keys

pub returns-in_default-clause-hole : goal.returns-in_default-clause-hole
returns-in_default-clause-hole c = c.loop-below.invariant.0.stands

pub returns-in_default-clause-keys : goal.returns-in_default-clause-keys
returns-in_default-clause-keys c = c.loop-below.invariant.0.keys
