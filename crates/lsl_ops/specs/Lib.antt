pub mod Integers
pub mod Operations
