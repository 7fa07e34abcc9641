pub mod Lows
pub mod Planning
pub mod Results
pub mod Retracing
pub mod Repeating
pub mod Iterations
pub mod Iterating
pub mod Observing
