pub use Rattle.sbpl_labels.proofs.Fitting
pub use Rattle.sbpl_labels.proofs.Keeping
pub use Rattle.sbpl_labels.proofs.Paths
pub use Rattle.sbpl_labels.proofs.Changes
pub use Rattle.sbpl_labels.proofs.Growing
