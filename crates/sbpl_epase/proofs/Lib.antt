pub mod Passing
pub mod Seats
