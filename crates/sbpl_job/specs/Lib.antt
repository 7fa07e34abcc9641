pub mod Words
pub mod Lines
pub mod Jobs
pub mod Found
pub mod Asked
pub mod Forms
pub use Rattle.sbpl_cfg.specs.sbpl_fixed as sbpl_fixed
pub use Rattle.sbpl_cfg.specs.sbpl_lists as sbpl_lists
