pub mod CellMap
pub mod ChangeText
pub mod Faults
pub mod Fields
pub mod LineFaults
pub mod MapAfter
pub mod Printed
pub mod Reading
pub use Rattle.sbpl_cfg.specs as sbpl_cfg
pub use Rattle.sbpl_cfg.specs.sbpl_lists as sbpl_lists
