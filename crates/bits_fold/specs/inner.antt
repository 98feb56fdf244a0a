-- Words of proofs and of private contracts. No public definition or clause cites one.
pub mod Reading
pub mod Turning
pub mod Forever
pub mod AsWritten
