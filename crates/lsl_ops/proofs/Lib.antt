pub mod ChargeLemmas
pub mod IntegerLemmas
