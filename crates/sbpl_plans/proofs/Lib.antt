pub mod Founds
pub mod PathSteps
pub mod Going
pub mod Observed
