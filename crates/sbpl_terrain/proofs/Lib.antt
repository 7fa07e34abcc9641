mod Lists
mod Noting
mod Adding
mod Written
mod Touching
pub use Rattle.sbpl_map.proofs.Items
pub use Rattle.sbpl_map.proofs.Cells
