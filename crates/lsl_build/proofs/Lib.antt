pub mod Accepted
pub mod FirstFault
pub mod Answers
pub mod Asks
