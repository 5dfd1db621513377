pub mod Number
pub mod Place
pub mod Quoted
