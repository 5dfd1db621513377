pub mod Counting
pub mod Stopping
pub mod Touching
