pub mod Query
pub mod State
pub mod Ready
pub mod Meaning
pub mod Passed
pub mod Changed
pub mod Determined
pub use Rattle.sbpl_labels.specs.sbpl_graph as sbpl_graph
pub use Rattle.sbpl_labels.specs as sbpl_labels
