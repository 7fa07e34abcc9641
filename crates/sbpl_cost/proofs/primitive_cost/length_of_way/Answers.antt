use Rattle.std.proofs.Common.{◌≡◌, ◌+◌, ◌-◌, ◌≤◌, length, drop, length-drop, arith}
use Rattle.std.proofs.lemmas.Option.{slice_get-get_or}
use Rattle.sbpl_cost.proofs.Ways.{way_length-drop, way_length-short}
use Rattle.sbpl_cost.proofs.primitive_cost.length_of_way.Goals as goal

pub pose_distance-total-requires-clause-p_in_range :
    goal.pose_distance-total-requires-clause-p_in_range
pose_distance-total-requires-clause-p_in_range c =
    c.requires.in_range (c.loop-i.i - 1) _ (slice_get-get_or c.args.poses.now (c.loop-i.i - 1) _ (omega arith))

pub pose_distance-total-requires-clause-q_in_range :
    goal.pose_distance-total-requires-clause-q_in_range
pose_distance-total-requires-clause-q_in_range c =
    c.requires.in_range c.loop-i.i _ (slice_get-get_or c.args.poses.now c.loop-i.i _ (omega arith))

pub loop-i-preserved : goal.loop-i-preserved
loop-i-preserved c =
    let on =
    way_length-drop c.args.poses.now c.loop-i.i c.pose_distance-total.result _ c.loop-i.auto.i c.loop-i-test.true
    c.pose_distance-total.ensures.value in
    let e : c.loop-i.i + 1 - 1 ≡ c.loop-i.i = omega arith in
    record { left = rw e (omega (arith, on)); small = omega arith; within = omega arith }

pub returns-clause-value : goal.returns-clause-value
returns-clause-value c =
    let left : length (drop (c.loop-i.i - 1) c.args.poses.now) ≤ 1 = simp length-drop (omega arith) in
    let none = way_length-short (drop (c.loop-i.i - 1) c.args.poses.now) left in
    omega arith
