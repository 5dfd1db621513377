pub mod Answering
pub mod Histories
pub mod InOrder
pub mod Keeping
pub mod PairLemmas
