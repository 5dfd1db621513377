pub mod ReadsLanguage
pub mod Fronts
pub mod Widening
pub mod Hints
pub mod Rule
pub mod Until
pub mod Pair
pub mod Loops
