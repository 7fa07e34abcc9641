pub mod Report
pub mod Traces
pub mod Verdicts
pub mod Listing
pub mod Refusals
pub mod Statuses
pub mod Shown
pub use Rattle.sbpl_plan.specs.sbpl_graph as sbpl_graph
pub use Rattle.sbpl_job.specs.sbpl_fixed as sbpl_fixed
pub use Rattle.sbpl_cost.specs.sbpl_cfg as sbpl_cfg
pub use Rattle.sbpl_cost.specs.sbpl_mprim as sbpl_mprim
pub use Rattle.sbpl_cost.specs.sbpl_map as sbpl_map
pub use Rattle.sbpl_cost.specs.sbpl_terrain as sbpl_terrain
pub use Rattle.sbpl_cost.specs.sbpl_sweep as sbpl_sweep
pub use Rattle.sbpl_cost.specs as sbpl_cost
pub use Rattle.sbpl_plan.specs.sbpl_labels as sbpl_labels
pub use Rattle.sbpl_plan.specs.sbpl_search as sbpl_search
pub use Rattle.sbpl_frontier_rules.specs.sbpl_serial as sbpl_serial
pub use Rattle.sbpl_frontier_rules.specs as sbpl_frontier_rules
pub use Rattle.sbpl_incumbent.specs as sbpl_incumbent
pub use Rattle.sbpl_cert.specs as sbpl_cert
pub use Rattle.sbpl_plan.specs as sbpl_plan
pub use Rattle.sbpl_job.specs as sbpl_job
pub use Rattle.sbpl_cert.specs.sbpl_lists as sbpl_lists
