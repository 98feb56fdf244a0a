pub mod Tree
pub mod TreeRows
pub mod WellFormed
pub mod Views
pub mod OnBits
pub mod Meaning
pub mod TreeOf
