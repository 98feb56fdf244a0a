-- Words of proofs and of private contracts. No public definition or clause cites one.
pub mod Adding
pub mod Columns
pub mod Fractions
pub mod Parts
pub mod Pivots
