pub mod Meant
pub mod Words
