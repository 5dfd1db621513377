pub mod Top
pub mod FirstFault
pub mod Answering
