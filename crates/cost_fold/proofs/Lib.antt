pub mod Equal
pub mod ReachedBits
pub mod Prices
pub mod Most
pub mod Whole
