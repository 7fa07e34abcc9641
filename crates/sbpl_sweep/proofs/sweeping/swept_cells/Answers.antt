use Rattle.std.proofs.Common.{slice_index_or, w64, FitsSigned, arith}
use Rattle.std.proofs.lemmas.Int.{to_z-of_z}
use Rattle.std.proofs.lemmas.Option.{slice_get-get_or}
use Rattle.std.proofs.lemmas.Result.{err_from_is_err_and, MatchResult-weaker}
use Rattle.sbpl_sweep.proofs.PosesSwept.{swept_more, swept_same, swept_all, stop_swept, stop_wide, no_pose}
use Rattle.sbpl_sweep.proofs.sweeping.swept_cells.Goals as goal

pub disc_of-requires-clause-pose : goal.disc_of-requires-clause-pose
disc_of-requires-clause-pose c =
    c.requires.poses c.loop-pose.pose-index (slice_index_or c.args.poses.now c.loop-pose.pose-index no_pose)
    (slice_get-get_or c.args.poses.now c.loop-pose.pose-index no_pose (omega arith))

pub returns-in_err-push_disc-clause-stop : goal.returns-in_err-push_disc-clause-stop
returns-in_err-push_disc-clause-stop c =
    let cell : FitsSigned w64 c.args.cell = c.ranges.cell in
    let pose = slice_index_or c.args.poses.now c.loop-pose.pose-index no_pose in
    let at = slice_get-get_or c.args.poses.now c.loop-pose.pose-index no_pose (omega arith) in
    let disc = simp to_z-of_z at c.disc_of.ensures.disc in
    let p = err_from_is_err_and c.from_residual.result c.from_residual.ensures.1 in
    rw (p.1, p.2) (stop_wide c.args.cell c.args.radius c.args.poses.now c.loop-pose.pose-index pose _
    at (λ h. c.in_err-push_disc.ensures.wide c.args.cell c.args.radius pose disc h))

pub compact-requires : goal.compact-requires
compact-requires c =
    let cell : FitsSigned w64 c.args.cell = c.ranges.cell in
    let pose = slice_index_or c.args.poses.now c.loop-pose.pose-index no_pose in
    let at = slice_get-get_or c.args.poses.now c.loop-pose.pose-index no_pose (omega arith) in
    let disc = simp to_z-of_z at c.disc_of.ensures.disc in
    let before = simp to_z-of_z at c.loop-pose.invariant in
    let more =
    swept_more c.args.cell c.args.radius c.args.poses.now c.loop-pose.pose-index pose c.disc_of.result
    c.loop-pose.bands.items c.push_disc.new.bands.items at disc c.disc_of.ensures.bounds
    (c.in_ok-push_disc.ensures.cells c.args.cell c.args.radius pose disc) before in
    record { bounded = more.bounded }

pub returns-in_err-compact-clause-stop : goal.returns-in_err-compact-clause-stop
returns-in_err-compact-clause-stop c =
    let cell : FitsSigned w64 c.args.cell = c.ranges.cell in
    let pose = slice_index_or c.args.poses.now c.loop-pose.pose-index no_pose in
    let at = slice_get-get_or c.args.poses.now c.loop-pose.pose-index no_pose (omega arith) in
    let disc = simp to_z-of_z at c.disc_of.ensures.disc in
    let before = simp to_z-of_z at c.loop-pose.invariant in
    let more =
    swept_more c.args.cell c.args.radius c.args.poses.now c.loop-pose.pose-index pose c.disc_of.result
    c.loop-pose.bands.items c.push_disc.new.bands.items at disc c.disc_of.ensures.bounds
    (c.in_ok-push_disc.ensures.cells c.args.cell c.args.radius pose disc) before in
    let p = err_from_is_err_and c.from_residual-in_err-compact.result c.from_residual-in_err-compact.ensures.1 in
    rw (p.1, p.2) (stop_swept c.args.cell c.args.radius c.args.poses.now _ c.push_disc.new.bands.items _ more
    c.in_err-compact.ensures.stop)

pub loop-pose-preserved : goal.loop-pose-preserved
loop-pose-preserved c =
    let cell : FitsSigned w64 c.args.cell = c.ranges.cell in
    let pose = slice_index_or c.args.poses.now c.loop-pose.pose-index no_pose in
    let at = slice_get-get_or c.args.poses.now c.loop-pose.pose-index no_pose (omega arith) in
    let disc = simp to_z-of_z at c.disc_of.ensures.disc in
    let before = simp to_z-of_z at c.loop-pose.invariant in
    let more =
    swept_more c.args.cell c.args.radius c.args.poses.now c.loop-pose.pose-index pose c.disc_of.result
    c.loop-pose.bands.items c.push_disc.new.bands.items at disc c.disc_of.ensures.bounds
    (c.in_ok-push_disc.ensures.cells c.args.cell c.args.radius pose disc) before in
    simp to_z-of_z (swept_same c.args.cell c.args.radius c.args.poses.now _ c.push_disc.new.bands.items
    c.compact.new.bands.items c.in_ok-compact.ensures.same more)

pub returns-clause-cells : goal.returns-clause-cells
returns-clause-cells c =
    let cell : FitsSigned w64 c.args.cell = c.ranges.cell in
    let before = simp to_z-of_z at c.loop-pose.invariant in
    MatchResult-weaker c.gather.result c.gather.ensures.cells (λ v listed. swept_all c.args.cell c.args.radius
    c.args.poses.now c.loop-pose.pose-index c.loop-pose.bands.items v.items (omega arith) before listed) (λ e h. h)

pub returns-clause-stop : goal.returns-clause-stop
returns-clause-stop c =
    let cell : FitsSigned w64 c.args.cell = c.ranges.cell in
    let before = simp to_z-of_z at c.loop-pose.invariant in
    MatchResult-weaker c.gather.result c.gather.ensures.stop (λ v h. h) (λ e stop.
    stop_swept c.args.cell c.args.radius c.args.poses.now c.loop-pose.pose-index c.loop-pose.bands.items e before stop)
