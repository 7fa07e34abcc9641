-- The grid with eight neighbours as a place that is planned on.
use Rattle.std.specs.Prelude.{◌≡◌, ℕ, ◌+◌, ◌*◌, false}
use Rattle.sbpl_nav2d.specs.Arc.{IsGridNetwork}
use Rattle.sbpl_nav2d.specs.Cells.{grid_cells}
use Rattle.sbpl_nav2d.specs.Environment.{column_of, row_of}
use Rattle.sbpl_nav2d.specs.Grids.{network_of}
use Rattle.sbpl_nav2d.specs.Guides.{IsOctile}
use Rattle.sbpl_nav2d.specs.World.{GridWorld}
use Rattle.sbpl_report.specs.declared.record.PathStep.{PathStep}
use Rattle.sbpl_report.specs.declared.record.ReportPose.{ReportPose}
use Rattle.sbpl_report.specs.declared.record.ReportPose.TheVariants as report_pose
use Rattle.sbpl_promises.specs.Sites.{Site, Reporting}

-- where a state is: its cell
abbrev pub cell_report_pose : GridWorld → ℕ → ReportPose
cell_report_pose w s = report_pose.Cell (column_of w.env.width s) (row_of w.env.width s)

-- arc k of a state, which leads to t, is this step: it has the number of its direction, and the cell of t
pub record IsGridStep (w : GridWorld) (s k t : ℕ) (step : PathStep) : Type 0 where
  pub id : step.id ≡ k
  pub report_pose : step.report_pose ≡ cell_report_pose w t

-- no change file says where the robot is: a place has no heading here
abbrev pub grid_reporting : Reporting GridWorld
grid_reporting = record {
  told = network_of;
  back = false;
  arcs = IsGridNetwork;
  starts = λ w s. s ≡ w.env.start;
  ends = λ w s. s ≡ w.env.end;
  report_pose = cell_report_pose;
  step = IsGridStep;
  headings = λ w. 0;
  state = λ w place. place.y * w.env.width + place.x;
}

-- a grid and octile distances
abbrev pub grid_site : Site GridWorld
grid_site = record { network = network_of; cells = grid_cells; says = IsOctile; reporting = grid_reporting }
