pub mod Marks
pub mod Endings
mod Fits
pub mod Arrivals
pub mod Headlines
mod Numbers
mod Traced
