pub mod Bands
pub mod Centres
pub mod Discs
pub mod Gathered
pub mod Reach
pub mod ReadTables
pub mod Reads
pub mod Sweep
pub mod Sweeping
pub mod Swept
pub mod Tables
pub mod Widths
pub use Rattle.sbpl_mprim.specs.sbpl_lists as sbpl_lists
pub use Rattle.sbpl_mprim.specs.sbpl_cfg as sbpl_cfg
pub use Rattle.sbpl_mprim.specs as sbpl_mprim
