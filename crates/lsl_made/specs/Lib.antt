pub mod Laws
pub mod Lines
pub mod Numbers
pub mod Steps
pub mod Walker
pub mod World
