-- Words of proofs and of private contracts. No public definition or clause cites one.
pub mod Settled
pub mod Between
pub mod Turning
pub mod Rounds
pub mod AsWritten
