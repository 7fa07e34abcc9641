pub mod Frontier
pub mod Independent
pub mod Events
pub mod Journal
pub mod Kept
pub mod Passes
pub mod Laws
pub use Rattle.sbpl_serial.specs.sbpl_graph as sbpl_graph
pub use Rattle.sbpl_serial.specs.sbpl_open as sbpl_open
pub use Rattle.sbpl_serial.specs.sbpl_labels as sbpl_labels
pub use Rattle.sbpl_serial.specs.sbpl_search as sbpl_search
pub use Rattle.sbpl_serial.specs as sbpl_serial
