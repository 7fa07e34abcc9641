pub mod Reading
pub mod Explaining
pub mod OnMaps
pub mod Moving
pub mod Blocking
pub mod Drawings
pub mod Workspaces
