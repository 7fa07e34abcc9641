pub mod Earlier
pub mod Faults
pub mod Judging
pub mod Primitives
pub mod Printed
pub mod Reading
pub mod Text
pub use Rattle.sbpl_cfg.specs.sbpl_lists as sbpl_lists
pub use Rattle.sbpl_cfg.specs as sbpl_cfg
