pub mod Answers
pub mod History
pub mod Kept
pub mod Laws
pub mod Listing
pub mod Pairs
