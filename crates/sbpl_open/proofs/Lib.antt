pub mod Ordering
pub mod Agreeing
pub mod Keeping
pub mod Counting
pub mod Viewing
pub mod Sifting
pub mod Ending
