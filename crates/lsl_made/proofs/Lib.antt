pub mod Rows
pub mod Spelling
pub mod StepLaws
pub mod WorldLines
pub mod WorldSpelling
