pub mod Sections
pub mod Claims
pub mod Labelling
pub mod Sparse
pub mod Cut
pub mod Versions
pub mod Made
pub mod Printed
pub mod Flaws
pub mod Checking
pub mod Sound
pub mod Faults
pub mod Format
pub mod Text
pub use Rattle.sbpl_lists.specs as sbpl_lists
