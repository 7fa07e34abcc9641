pub mod Changes
pub mod Environment
pub mod Generator
pub mod Primitives
