pub mod Divisors
pub mod Twos
pub mod Terms
pub mod Quotients
pub mod Settling
