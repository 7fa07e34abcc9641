pub mod Counts
pub mod Desk
pub mod Hearing
pub mod Memory
pub mod Real
