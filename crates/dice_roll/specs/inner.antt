-- Words of proofs and of private contracts. No public definition or clause cites one.
pub mod Flipped
pub mod Dice
