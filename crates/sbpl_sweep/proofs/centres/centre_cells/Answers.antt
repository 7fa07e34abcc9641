use Rattle.std.proofs.Common.{◌≤◌, length, map, ap, ◌∙◌, arith, w64}
use Rattle.std.proofs.lemmas.Int.{to_z-of_z}
use Rattle.std.proofs.lemmas.List.{take_all}
use Rattle.std.proofs.lemmas.Option.{slice_get-get_or}
use Rattle.sbpl_sweep.specs.Centres.{cell_of_pose}
use Rattle.sbpl_sweep.proofs.CellOrders.{centres_from}
use Rattle.sbpl_sweep.proofs.centres.centre_cells.Goals as goal

pub cell_of_pose-requires-clause-pose : goal.cell_of_pose-requires-clause-pose
cell_of_pose-requires-clause-pose c =
    c.requires.poses c.loop-pose.pose-index _ (slice_get-get_or c.args.poses.now c.loop-pose.pose-index _ (omega arith))

pub returns : goal.returns
returns c =
    let done : length c.args.poses.now ≤ c.loop-pose.pose-index = omega arith in
    let so_far = rw (to_z-of_z w64 c.args.cell c.ranges.cell) at c.loop-pose.invariant in
    let made = so_far ∙ ap (map (cell_of_pose c.args.cell)) (take_all c.loop-pose.pose-index c.args.poses.now done) in
    record { centres = centres_from c.args.cell c.args.poses.now _ _ made c.in_ok-sort_cells.ensures.sorted }
