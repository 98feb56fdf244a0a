-- Words of proofs and of private contracts. No public definition or clause cites one.
pub mod Shape
pub mod Resting
pub mod Kept
pub mod Coming
pub mod Going
pub mod Taken
pub mod Ran
pub mod Tried
