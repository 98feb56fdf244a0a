-- Words of proofs and of private contracts. No public definition or clause cites one.
pub mod Pushdown
pub mod Parses
pub mod Programs
pub mod Starts
pub mod Fronts
pub mod Beginnings
