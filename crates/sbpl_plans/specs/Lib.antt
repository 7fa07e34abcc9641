pub mod Boards
pub mod Planning
pub mod Tasks
