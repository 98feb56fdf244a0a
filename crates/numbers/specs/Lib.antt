pub mod Divisor
pub mod Fraction
pub mod Arithmetic
pub mod Units
