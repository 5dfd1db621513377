pub mod Growing
pub mod Joining
