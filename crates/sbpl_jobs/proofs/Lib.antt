pub mod Ends
pub mod Makings
pub mod Planned
pub mod Telling
