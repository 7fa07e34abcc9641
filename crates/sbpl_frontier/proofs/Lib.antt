pub mod Tying
pub mod Summing
pub mod Finishing
