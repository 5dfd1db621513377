pub mod Flaws
pub mod ProgramRows
pub mod SyntaxRows
