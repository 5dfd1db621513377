pub mod Lengths
pub mod LineEnds
