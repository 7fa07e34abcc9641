pub mod Seeds
pub mod Spacing
pub mod Finding
pub mod Reading
pub mod Naming
pub mod PartedForms
pub mod Asking
mod Lining
