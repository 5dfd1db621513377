pub mod KeyLemmas
pub mod TextLemmas
