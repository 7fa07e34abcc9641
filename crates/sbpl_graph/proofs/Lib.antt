pub mod Paths
pub mod Keeping
pub mod Fitting
