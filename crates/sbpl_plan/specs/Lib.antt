pub mod Asked
pub mod Looking
pub mod Passing
pub mod Outcomes
pub mod ReadyAfter
pub mod Planned
pub mod OutOfMemory
pub mod Observed
pub mod Determined
pub use Rattle.sbpl_search.specs.sbpl_graph as sbpl_graph
pub use Rattle.sbpl_search.specs.sbpl_labels as sbpl_labels
pub use Rattle.sbpl_search.specs as sbpl_search
