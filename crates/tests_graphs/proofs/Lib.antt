pub mod SampleTails
pub mod Touching
