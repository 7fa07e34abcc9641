pub use Rattle.sbpl_serial.proofs.Paths
