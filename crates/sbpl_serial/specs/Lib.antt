pub mod Marked
pub mod Keys
pub mod Run
pub mod Determined
pub mod Relaxed
pub mod Queue
pub mod Low
pub mod Serial
pub mod Repaired
pub mod Raised
pub mod Times
pub mod Taken
pub mod Passed
pub mod Meant
pub use Rattle.sbpl_search.specs.sbpl_graph as sbpl_graph
pub use Rattle.sbpl_open.specs as sbpl_open
pub use Rattle.sbpl_search.specs.sbpl_labels as sbpl_labels
pub use Rattle.sbpl_search.specs as sbpl_search
