pub mod Contains
pub mod Latest
pub mod Numbers
pub mod Watching
