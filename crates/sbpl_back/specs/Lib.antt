pub mod Reversed
pub mod ReversedCells
pub mod Starts
