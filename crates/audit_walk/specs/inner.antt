-- Words of proofs and of private contracts. No public definition or clause cites one.
pub mod Sums
pub mod Counts
