pub mod Verifying
pub use Rattle.sbpl_telling.proofs.Frames
pub use Rattle.sbpl_telling.proofs.Writings
pub use Rattle.sbpl_worlds.proofs.Reading
pub use Rattle.sbpl_telling.proofs.Endings
pub use Rattle.sbpl_worlds.proofs.Explaining
