pub mod Spread
pub mod Refused
