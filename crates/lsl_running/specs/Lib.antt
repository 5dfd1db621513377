pub mod Asking
pub mod Calling
pub mod Charging
pub mod Limits
pub mod Results
pub mod Values
