pub mod Standing
pub mod Nowhere
pub mod Known
pub mod Kept
pub mod Steps
pub use Rattle.sbpl_frontier_rules.specs.sbpl_labels as sbpl_labels
pub use Rattle.sbpl_frontier_rules.specs.sbpl_search as sbpl_search
pub use Rattle.sbpl_frontier_rules.specs as sbpl_frontier_rules
