pub mod Lines
pub mod Reading
pub mod Refused
pub mod Settings
pub mod Wanted
pub use Rattle.sbpl_map.specs as sbpl_map
pub use Rattle.sbpl_job.specs as sbpl_job
