pub mod Planner
pub mod Parts
pub mod Making
pub mod Workers
pub use Rattle.sbpl_frontier.specs.sbpl_frontier_rules as sbpl_frontier_rules
pub use Rattle.sbpl_frontier.specs.sbpl_frontier_core as sbpl_frontier_core
