-- Words of proofs and of private contracts. No public definition or clause cites one.
pub mod Bounded
pub mod Jumps
pub mod Stored
