pub mod More
pub mod MoreExpressions
pub mod MoreStatements
pub mod MoreHandlers
pub mod KindLemmas
pub mod GlobalLemmas
