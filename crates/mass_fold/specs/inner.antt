-- Words of proofs and of private contracts. No public definition or clause cites one.
pub mod Amounts
pub mod Rounds
pub mod Masses
pub mod Ended
pub mod Steps
pub mod Fold
pub mod Outcomes
pub mod Metering
pub mod Folding
pub mod Drawing
pub mod Body
