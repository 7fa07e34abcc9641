pub mod Lists
pub mod Flags
pub mod Pieces
pub mod Places
pub mod Messages
