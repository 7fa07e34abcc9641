pub mod Posts
pub mod Drained
pub mod Known
pub mod Lines
pub mod Kept
pub mod Steps
pub use Rattle.sbpl_claims.specs.sbpl_labels as sbpl_labels
pub use Rattle.sbpl_claims.specs.sbpl_search as sbpl_search
pub use Rattle.sbpl_claims.specs.sbpl_frontier_rules as sbpl_frontier_rules
pub use Rattle.sbpl_frontier_core.specs as sbpl_frontier_core
pub use Rattle.sbpl_claims.specs as sbpl_claims
