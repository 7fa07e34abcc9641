pub mod Network
pub mod Laws
pub mod Path
pub mod Certificate
pub mod Bound
pub mod Exact
pub mod Kept
pub mod Fit
