pub mod Counts
pub mod Driven
pub mod Exchanged
pub mod Samples
pub mod Stops
