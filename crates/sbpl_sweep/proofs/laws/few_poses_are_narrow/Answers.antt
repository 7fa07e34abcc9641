use Rattle.sbpl_sweep.proofs.Points as points
use Rattle.sbpl_sweep.proofs.laws.few_poses_are_narrow.Goals as goal

pub returns-clause-cells : goal.returns-clause-cells
returns-clause-cells c = points.points_sweep_few_cells

pub returns-clause-narrow : goal.returns-clause-narrow
returns-clause-narrow c = points.few_poses_are_narrow
