pub mod Environment
pub mod Faults
pub mod Format
pub mod Place
pub mod Printed
pub mod Text
pub use Rattle.sbpl_fixed.specs as sbpl_fixed
pub use Rattle.sbpl_lists.specs as sbpl_lists
