pub mod Cells
mod Lines
mod Going
mod Kept
pub mod LineLaws
mod MapLaws
mod PrintedText
mod TextLaws
mod Texts
pub use Rattle.sbpl_cfg.proofs.Items
