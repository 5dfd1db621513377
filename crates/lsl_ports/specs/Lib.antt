pub mod Counts
pub mod Shelf
pub mod Growth
pub mod Trips
pub mod Piece
pub mod Stored
