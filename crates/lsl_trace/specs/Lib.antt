pub mod Copies
pub mod Early
pub mod Ended
pub mod Texts
