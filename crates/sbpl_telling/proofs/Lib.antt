pub mod Frames
pub mod Writings
pub mod Endings
