pub mod Raised
pub mod Listed
pub mod Planner
pub use Rattle.sbpl_ara.specs.sbpl_graph as sbpl_graph
pub use Rattle.sbpl_ara.specs.sbpl_open as sbpl_open
pub use Rattle.sbpl_ara.specs.sbpl_labels as sbpl_labels
pub use Rattle.sbpl_ara.specs.sbpl_search as sbpl_search
pub use Rattle.sbpl_ara.specs.sbpl_serial as sbpl_serial
pub use Rattle.sbpl_ara.specs as sbpl_ara
