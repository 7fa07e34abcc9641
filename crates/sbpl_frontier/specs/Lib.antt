pub mod Tally
pub mod Come
pub mod Tied
pub mod Turns
pub use Rattle.sbpl_postings.specs.sbpl_frontier_rules as sbpl_frontier_rules
pub use Rattle.sbpl_postings.specs.sbpl_frontier_core as sbpl_frontier_core
