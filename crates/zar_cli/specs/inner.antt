-- Words of proofs and of private contracts. No public definition or clause cites one.
pub mod OptionsView
pub mod Readings
pub mod Stage
pub mod Works
pub mod Said
pub mod AsWritten
