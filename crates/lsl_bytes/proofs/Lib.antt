pub mod AtomLemmas
pub mod ListLemmas
pub mod NumberLemmas
pub mod PlaceLemmas
pub mod TextLemmas
pub mod ValueLemmas
