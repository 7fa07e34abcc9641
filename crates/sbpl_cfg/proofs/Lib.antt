pub mod Items
mod OwnFaults
mod PlaceLaws
mod PrintLaws
mod PrintedText
mod TextLaws
pub use Rattle.sbpl_fixed.proofs.ReadBack
