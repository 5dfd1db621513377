pub mod Calls
pub mod Constants
pub mod Events
pub mod Names
