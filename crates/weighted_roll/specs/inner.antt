-- Words of proofs and of private contracts. No public definition or clause cites one.
pub mod Tables
pub mod Walks
pub mod Sums
