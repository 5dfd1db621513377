-- The definitions.
pub mod Pieces
pub mod Places
pub mod Stacks
