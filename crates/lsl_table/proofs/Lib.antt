pub mod CallLemmas
pub mod ConstantLemmas
pub mod EventLemmas
pub mod NameLemmas
