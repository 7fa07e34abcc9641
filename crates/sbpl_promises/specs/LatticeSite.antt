-- The lattice as a place that is planned on.
use Rattle.std.specs.Prelude.{◌≡◌, ℕ, false}
use Rattle.sbpl_report.specs.sbpl_graph.Network.{Network}
use Rattle.sbpl_report.specs.sbpl_cfg.declared.pose.Pose.{Pose}
use Rattle.sbpl_report.specs.sbpl_cfg.declared.pose.Place.{Place}
use Rattle.sbpl_report.specs.sbpl_cfg.Environment.{Environment, IsPlaceOf}
use Rattle.sbpl_report.specs.sbpl_mprim.declared.prim.Primitive.{Primitive}
use Rattle.sbpl_report.specs.sbpl_cost.Arc.{HasLatticeArcs, IsArcBy}
use Rattle.sbpl_report.specs.sbpl_cost.Cells.{lattice_cells}
use Rattle.sbpl_report.specs.sbpl_cost.Lattices.{network_of}
use Rattle.sbpl_report.specs.sbpl_cost.States.{place_of, state_number}
use Rattle.sbpl_report.specs.sbpl_cost.TailOrder.{HasLatticeTails}
use Rattle.sbpl_report.specs.sbpl_cost.World.{World}
use Rattle.sbpl_replan.specs.sbpl_heur.Bests.{IsBest}
use Rattle.sbpl_report.specs.declared.record.PathStep.{PathStep}
use Rattle.sbpl_report.specs.declared.record.ReportPose.TheVariants as report_pose
use Rattle.sbpl_promises.specs.Sites.{Site, Reporting}

-- the state of a pose: that of its cell and heading
pub record IsStateOf (e : Environment) (p : Pose) (s : ℕ) : Type 0 where
  pub place : Place
  pub of_pose : IsPlaceOf e p place
  pub number : s ≡ state_number e place

-- arc k of state s, which leads to t, is this step: it has the id of the primitive whose motion the arc is, and the place of t
pub record IsPathStep (w : World) (s k t : ℕ) (step : PathStep) : Type 0 where
  pub index : ℕ
  pub primitive : Primitive
  pub by : IsArcBy w s k index primitive
  pub id : step.id ≡ primitive.id
  pub report_pose : step.report_pose ≡ report_pose.Pose (place_of w.env t)

-- a graph has just the arcs that the primitives make on the map, and the tails of these in order
pub record HasArcsOf (n : Network) (w : World) : Type 0 where
  pub arcs : HasLatticeArcs n w
  pub tails : HasLatticeTails n w

abbrev pub lattice_reporting : Reporting World
lattice_reporting = record {
  told = network_of;
  back = false;
  arcs = HasArcsOf;
  starts = λ w s. IsStateOf w.env w.env.start s;
  ends = λ w s. IsStateOf w.env w.env.end s;
  report_pose = λ w s. report_pose.Pose (place_of w.env s);
  step = IsPathStep;
  headings = λ w. w.env.headings;
  state = λ w place. state_number w.env place;
}

-- a lattice and the best heuristic
abbrev pub lattice_site : Site World
lattice_site = record { network = network_of; cells = lattice_cells; says = IsBest; reporting = lattice_reporting }
