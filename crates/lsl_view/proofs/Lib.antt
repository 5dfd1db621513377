mod ActiveCalls
mod Fitting
mod Flights
mod OneMore
pub mod Members
pub mod CodeNames
mod Order
mod Places
mod Source
pub mod Stepping
mod Written
