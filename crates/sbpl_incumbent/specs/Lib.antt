pub mod Entries
pub mod Slips
pub mod Views
pub mod Known
pub mod Kept
pub mod Steps
