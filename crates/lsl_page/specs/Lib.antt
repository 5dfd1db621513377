pub mod Request
pub mod Faults
pub mod Room
pub mod Ended
pub mod Headline
pub mod Stepping
