pub mod Notice
pub mod Words
